use Rattle.std.proofs.Common.{[], ◌∷◌, ◌++◌, refl, ap, ◌∙◌}
use Rattle.range_log.specs.Ranges.{range_call}
use Rattle.shared_meta.specs.Merged.{Both}
use Rattle.shared_meta.proofs.Called.{range_pushed}
use Rattle.shared_meta.proofs.logs.Logs.put_room.Goals as goal

pub invariant_of-self-2 : goal.invariant_of-self-2
invariant_of-self-2 c = (range_pushed c.self.inside.order.items c.reserve.new.self.items c.push_reserved.new.self.items c.self.inside.ranges.room c.put_room.new.self.room c.self.inside.deltas.room (range_call c.args.stream c.args.off c.args.bytes.now) refl c.self.invariant c.reserve.ensures.items c.push_reserved.ensures.items c.in_ok-put_room.ensures.ok).0

pub returns-clause-ok : goal.returns-clause-ok
returns-clause-ok c =
    (range_pushed c.self.inside.order.items c.reserve.new.self.items c.push_reserved.new.self.items c.self.inside.ranges.room c.put_room.new.self.room c.self.inside.deltas.room (range_call c.args.stream c.args.off c.args.bytes.now) refl c.self.invariant c.reserve.ensures.items c.push_reserved.ensures.items c.in_ok-put_room.ensures.ok).1
    ∙ ap (λ (b : Both). b.room ++ (range_call c.args.stream c.args.off c.args.bytes.now) ∷ []) c.self.view_is
