use Rattle.std.proofs.Common.{arith, ◌≡◌, length, ap}
use Rattle.record_logs.specs.Kept.{LogLists}
use Rattle.record_logs.specs.Held.{recs_of, places_of}
use Rattle.record_logs.proofs.Memory.{length-recs}
use Rattle.record_logs.proofs.Room.{length-calls, first_out, served_used, called_from}
use Rattle.record_logs.proofs.logs.RecordLogs.use_first.Goals as goal

pub remove-call-requires : goal.remove-call-requires
remove-call-requires c = omega (arith, ap (λ (z : LogLists). length z.room) c.self.view_is, length-calls c.self.inside.room.items, c.self.inside.room.ok.0)

pub use_at-requires : goal.use_at-requires
use_at-requires c =
    let sixty : length c.self.inside.logs ≡ 64 = omega arith in
    let out = first_out (recs_of c.self.inside.logs) (places_of c.self.inside.logs) c.self.inside.room.items c.remove-call.new.self.items c.remove-call.result
    c.args.self.now c.self.view_is c.requires c.remove-call.ensures.items c.remove-call.ensures.value c.self.invariant in
    record { stream = omega (arith, out.1.0.stream); empty = out.1.0.empty; room = omega (arith, out.1.0.log) }

pub invariant_of-self : goal.invariant_of-self
invariant_of-self c =
    let sixty : length c.self.inside.logs ≡ 64 = omega arith in
    let out = first_out (recs_of c.self.inside.logs) (places_of c.self.inside.logs) c.self.inside.room.items c.remove-call.new.self.items c.remove-call.result
    c.args.self.now c.self.view_is c.requires c.remove-call.ensures.items c.remove-call.ensures.value c.self.invariant in
    served_used (recs_of c.self.inside.logs) (recs_of c.use_at.new.logs) (places_of c.self.inside.logs) (places_of c.use_at.new.logs)
    c.remove-call.result c.remove-call.new.self.items
    (omega (arith, length-recs c.self.inside.logs, out.1.0.stream)) c.use_at.ensures.recs c.use_at.ensures.places out.1

pub returns : goal.returns
returns c =
    let sixty : length c.self.inside.logs ≡ 64 = omega arith in
    let out = first_out (recs_of c.self.inside.logs) (places_of c.self.inside.logs) c.self.inside.room.items c.remove-call.new.self.items c.remove-call.result
    c.args.self.now c.self.view_is c.requires c.remove-call.ensures.items c.remove-call.ensures.value c.self.invariant in
    called_from (recs_of c.self.inside.logs) (recs_of c.use_at.new.logs) c.self.inside.room.items c.remove-call.new.self.items c.remove-call.result
    c.args.self.now c.self.view_is out.0 (omega (arith, length-recs c.self.inside.logs, out.1.0.stream)) c.use_at.ensures.recs
