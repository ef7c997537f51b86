use Rattle.crash_meaning.proofs.Asked as laws
use Rattle.crash_meaning.proofs.calls_may_be_made.Goals as goal

pub returns : goal.returns
returns c = laws.calls_may_be_made
