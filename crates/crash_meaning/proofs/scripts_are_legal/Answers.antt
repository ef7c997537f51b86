use Rattle.crash_meaning.proofs.Asked as laws
use Rattle.crash_meaning.proofs.scripts_are_legal.Goals as goal

pub returns-clause-legal : goal.returns-clause-legal
returns-clause-legal c = laws.scripts_are_legal

pub returns-clause-more : goal.returns-clause-more
returns-clause-more c = laws.calls_go_on
