use Rattle.std.proofs.Common.{refl}
use Rattle.record_logs.proofs.logs.RecordLogs.new.Goals as goal

pub invariant_of-result : goal.invariant_of-result
invariant_of-result c = rw c.new.ensures.items tt

pub returns : goal.returns
returns c = (c.no_records.ensures, rw c.new.ensures.items refl)
