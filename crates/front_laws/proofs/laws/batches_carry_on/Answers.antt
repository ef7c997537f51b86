use Rattle.front_laws.proofs.CarryOn as proofs
use Rattle.front_laws.proofs.laws.batches_carry_on.Goals as goal

pub returns : goal.returns
returns c = proofs.batches_carry_on
