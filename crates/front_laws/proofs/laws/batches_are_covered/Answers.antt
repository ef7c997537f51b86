-- The law is the lemma of Covers.
use Rattle.front_laws.proofs.Covers as proofs
use Rattle.front_laws.proofs.laws.batches_are_covered.Goals as goal

pub returns : goal.returns
returns c = proofs.batches_are_covered
