use Rattle.record_logs.specs.Kept.{log_of}
use Rattle.range_log.proofs.Hold.{held_taken}
use Rattle.range_log.proofs.log.RangeLog.take.Goals as goal

pub invariant_of-self : goal.invariant_of-self
invariant_of-self c = held_taken (log_of c.self.inside.logs) (log_of c.take.new.self) c.args.stream c.requires c.take.ensures.log c.self.invariant
