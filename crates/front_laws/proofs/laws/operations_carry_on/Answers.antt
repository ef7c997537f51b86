-- The law is the lemma of Contents.
use Rattle.front_laws.proofs.Contents as proofs
use Rattle.front_laws.proofs.laws.operations_carry_on.Goals as goal

pub returns : goal.returns
returns c = proofs.operations_carry_on
