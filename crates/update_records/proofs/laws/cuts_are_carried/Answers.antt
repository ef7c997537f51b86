use Rattle.update_records.proofs.Cutting as proofs
use Rattle.update_records.proofs.laws.cuts_are_carried.Goals as goal

pub returns : goal.returns
returns c = proofs.cuts_are_carried
