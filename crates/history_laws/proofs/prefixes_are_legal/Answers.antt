use Rattle.history_laws.proofs.Prefixes as laws
use Rattle.history_laws.proofs.prefixes_are_legal.Goals as goal

pub returns : goal.returns
returns c = laws.prefixes_are_legal
