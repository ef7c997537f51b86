use Rattle.update_records.proofs.Batching as proofs
use Rattle.update_records.proofs.laws.batches_are_carried.Goals as goal

pub returns : goal.returns
returns c = proofs.batches_are_carried
