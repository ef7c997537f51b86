use Rattle.std.proofs.Common.{[], ◌∷◌, ◌++◌, refl, ap, ◌∙◌}
use Rattle.delta_log.specs.Deltas.{bit_call}
use Rattle.shared_meta.specs.Merged.{Both}
use Rattle.shared_meta.proofs.Called.{delta_pushed}
use Rattle.shared_meta.proofs.logs.Logs.flip_room.Goals as goal

pub invariant_of-self-2 : goal.invariant_of-self-2
invariant_of-self-2 c = (delta_pushed c.self.inside.order.items c.reserve.new.self.items c.push_reserved.new.self.items c.self.inside.ranges.room c.self.inside.deltas.room c.bit_room.new.self.room (bit_call c.args.stream c.args.off c.args.bit c.args.on) refl c.self.invariant c.reserve.ensures.items c.push_reserved.ensures.items c.in_ok-bit_room.ensures.ok).0

pub returns-clause-ok : goal.returns-clause-ok
returns-clause-ok c =
    (delta_pushed c.self.inside.order.items c.reserve.new.self.items c.push_reserved.new.self.items c.self.inside.ranges.room c.self.inside.deltas.room c.bit_room.new.self.room (bit_call c.args.stream c.args.off c.args.bit c.args.on) refl c.self.invariant c.reserve.ensures.items c.push_reserved.ensures.items c.in_ok-bit_room.ensures.ok).1
    ∙ ap (λ (b : Both). b.room ++ (bit_call c.args.stream c.args.off c.args.bit c.args.on) ∷ []) c.self.view_is
