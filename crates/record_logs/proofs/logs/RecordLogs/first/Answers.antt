use Rattle.record_logs.specs.Held.{recs_of}
use Rattle.record_logs.proofs.Room.{first_seen}
use Rattle.record_logs.proofs.logs.RecordLogs.first.Goals as goal

pub returns : goal.returns
returns c =
    first_seen (recs_of c.self.inside.logs) c.self.inside.room.items c.deref.result.now c.in_ok-call.call.now c.args.self.now c.self.view_is
    c.deref.ensures.value c.in_ok-call.ensures.value
