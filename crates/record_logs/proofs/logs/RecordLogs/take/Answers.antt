use Rattle.std.proofs.Common.{arith, ◌<◌, length}
use Rattle.record_logs.specs.Held.{recs_of, places_of}
use Rattle.record_logs.proofs.Memory.{length-recs}
use Rattle.record_logs.proofs.Room.{served_taken}
use Rattle.record_logs.proofs.logs.RecordLogs.take.Goals as goal

pub invariant_of-self : goal.invariant_of-self
invariant_of-self c =
    let l : c.args.stream < length (recs_of c.self.inside.logs) = omega (arith, length-recs c.self.inside.logs) in
    served_taken (recs_of c.self.inside.logs) (recs_of c.take_at.new.logs) (places_of c.self.inside.logs) (places_of c.take_at.new.logs)
    c.self.inside.room.items c.args.stream l c.take_at.ensures.left c.take_at.ensures.places c.self.invariant
