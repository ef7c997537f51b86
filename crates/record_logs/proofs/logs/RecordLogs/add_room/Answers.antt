use Rattle.std.proofs.Common.{arith, ◌+◌, ◌≤◌, length, vec_capacity}
use Rattle.record_logs.specs.Held.{recs_of, places_of, list_at, number_at, AreServed}
use Rattle.record_logs.proofs.Room.{served_grown, served_last}
use Rattle.record_logs.proofs.logs.RecordLogs.add_room.Goals as goal

pub invariant_of-self : goal.invariant_of-self
invariant_of-self c =
    served_grown (recs_of c.self.inside.logs) (recs_of c.reserve_at.new.logs) (places_of c.self.inside.logs) (places_of c.reserve_at.new.logs)
    c.self.inside.room.items c.reserve_at.ensures.recs c.reserve_at.ensures.places c.self.invariant

pub invariant_of-self-in_err-push : goal.invariant_of-self-in_err-push
invariant_of-self-in_err-push c =
    rw c.in_err-push.ensures.items
    (served_grown (recs_of c.self.inside.logs) (recs_of c.reserve_at.new.logs) (places_of c.self.inside.logs) (places_of c.reserve_at.new.logs)
    c.self.inside.room.items c.reserve_at.ensures.recs c.reserve_at.ensures.places c.self.invariant)

pub invariant_of-self-2 : goal.invariant_of-self-2
invariant_of-self-2 c =
    let before : AreServed (recs_of c.reserve_at.new.logs) (places_of c.reserve_at.new.logs) 0 c.self.inside.room.items
    = served_grown (recs_of c.self.inside.logs) (recs_of c.reserve_at.new.logs) (places_of c.self.inside.logs) (places_of c.reserve_at.new.logs)
    c.self.inside.room.items c.reserve_at.ensures.recs c.reserve_at.ensures.places c.self.invariant in
    let places : c.len-more.result + 1 ≤ vec_capacity c.in_ok-place.place = c.in_ok-place.ensures.capacity in
    let log : length (list_at (recs_of c.reserve_at.new.logs) c.args.stream) + (c.len-more.result + 1) ≤ number_at (places_of c.reserve_at.new.logs) c.args.stream
    = c.in_ok-reserve_at.ensures.ok in
    rw c.in_ok-push.ensures.items
    (served_last (recs_of c.reserve_at.new.logs) (places_of c.reserve_at.new.logs) (record { stream = c.args.stream; rec = c.args.rec; place = c.in_ok-place.place })
    c.self.inside.room.items 0 before
    (record { stream = c.requires; empty = c.in_ok-place.ensures.items; own = omega (arith, c.self.inside.room.ok.0, c.len-more.ensures); log = omega (arith, c.self.inside.room.ok.0, c.len-more.ensures) }))
