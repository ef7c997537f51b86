use Rattle.record_logs.specs.Held.{recs_of, places_of}
use Rattle.record_logs.proofs.Room.{served_grown}
use Rattle.record_logs.proofs.logs.RecordLogs.push.Goals as goal

pub invariant_of-self : goal.invariant_of-self
invariant_of-self c =
    served_grown (recs_of c.self.inside.logs) (recs_of c.push_at.new.logs) (places_of c.self.inside.logs) (places_of c.push_at.new.logs)
    c.self.inside.room.items c.in_err-push_at.ensures.err c.push_at.ensures.places c.self.invariant
