use Rattle.std.proofs.Common.{◌≡◌, [], ◌∷◌, ◌++◌, refl, ap, ◌∙◌}
use Rattle.std.specs.Int.{w64, cast_signed, cast_unsigned}
use Rattle.std.proofs.lemmas.Int.{to_z-of_z}
use Rattle.delta_log.specs.Deltas.{add_call}
use Rattle.shared_meta.specs.Merged.{Both}
use Rattle.shared_meta.proofs.Called.{delta_pushed}
use Rattle.shared_meta.proofs.logs.Logs.add_room.Goals as goal

pub invariant_of-self-2 : goal.invariant_of-self-2
invariant_of-self-2 c =
    let z : cast_signed w64 (cast_unsigned w64 c.args.by) ≡ c.args.by = to_z-of_z w64 c.args.by c.ranges.by in
    (delta_pushed c.self.inside.order.items c.reserve.new.self.items c.push_reserved.new.self.items c.self.inside.ranges.room c.self.inside.deltas.room c.add_room.new.self.room (add_call c.args.stream c.args.off c.args.by) refl c.self.invariant c.reserve.ensures.items c.push_reserved.ensures.items (rw z at (c.in_ok-add_room.ensures.ok))).0

pub returns-clause-ok : goal.returns-clause-ok
returns-clause-ok c =
    let z : cast_signed w64 (cast_unsigned w64 c.args.by) ≡ c.args.by = to_z-of_z w64 c.args.by c.ranges.by in
    (delta_pushed c.self.inside.order.items c.reserve.new.self.items c.push_reserved.new.self.items c.self.inside.ranges.room c.self.inside.deltas.room c.add_room.new.self.room (add_call c.args.stream c.args.off c.args.by) refl c.self.invariant c.reserve.ensures.items c.push_reserved.ensures.items (rw z at (c.in_ok-add_room.ensures.ok))).1
    ∙ ap (λ (b : Both). b.room ++ (add_call c.args.stream c.args.off c.args.by) ∷ []) c.self.view_is
