use Rattle.std.proofs.Common.{◌≡◌, true, false, refl, sym, ap, subst, ◌∙◌}
use Rattle.std.specs.Int.{w64, cast_signed, cast_unsigned}
use Rattle.std.proofs.lemmas.Int.{to_z-of_z}
use Rattle.std.proofs.Common.{ℤ}
use Rattle.ccfs_base.specs.Rooms.{IsFirst}
use Rattle.delta_log.specs.Deltas.{add_call}
use Rattle.shared_meta.specs.declared.logs.Kind.TheVariants as kinds
use Rattle.shared_meta.specs.Merged.{Both}
use Rattle.shared_meta.proofs.Merged.{delta_first}
use Rattle.shared_meta.proofs.Called.{delta_loses}
use Rattle.shared_meta.proofs.logs.Logs.add.Goals as goal
use Rattle.shared_meta.proofs.logs.Logs.add.Goals.{then-is_delta_next, else-is_delta_next}

pub returns-in_err-add-clause-first : goal.returns-in_err-add-clause-first
returns-in_err-add-clause-first c f =
    let z : cast_signed w64 (cast_unsigned w64 c.args.by) ≡ c.args.by = to_z-of_z w64 c.args.by c.ranges.by in
    let h = delta_first c.self.inside.order.items c.self.inside.ranges.room c.self.inside.deltas.room (add_call c.args.stream c.args.off c.args.by) refl c.self.invariant (f.0, ap (λ (b : Both). b.room) c.self.view_is ∙ f.1) in
    let e : false ≡ true = c.in_err-add.ensures.first (subst (λ (x : ℤ). IsFirst (add_call c.args.stream c.args.off x) c.self.inside.deltas.room) (sym z) h.1) in
    absurd cc

pub returns-else-first-clause-ok : goal.returns-else-first-clause-ok
returns-else-first-clause-ok c =
    let z : cast_signed w64 (cast_unsigned w64 c.args.by) ≡ c.args.by = to_z-of_z w64 c.args.by c.ranges.by in
    let n : IsFirst kinds.Delta c.self.inside.order.items → IsFirst (add_call c.args.stream c.args.off c.args.by) c.self.inside.deltas.room → ⊥ = λ o f. elim c.if-is_delta_next.branch [
      | then-is_delta_next w ↦ let e : true ≡ false = sym (w.is_first_add-first.ensures.back (subst (λ (x : ℤ). IsFirst (add_call c.args.stream c.args.off x) c.self.inside.deltas.room) (sym z) f)) ∙ sym w.first-is ∙ c.if-first.false in absurd cc
      | else-is_delta_next w ↦ let e : true ≡ false = sym (c.is_delta_next.ensures.back (subst (IsFirst kinds.Delta) (sym c.deref.ensures.value) o)) ∙ w.if-is_delta_next.false in absurd cc
    ] in
    delta_loses c.self.inside.ranges.logs c.self.inside.deltas.logs c.add.new.self.logs c.clear_room.new.self.logs c.clear_room-else-first.new.self.logs c.self.inside.order.items c.clear.new.self.items
    c.self.inside.ranges.room c.self.inside.deltas.room c.clear_room.new.self.room c.clear_room-else-first.new.self.room (add_call c.args.stream c.args.off c.args.by) c.args.self.now
    refl refl c.self.view_is c.self.invariant n (rw z at (c.in_ok-add.ensures.ok.log)) c.clear_room-else-first.ensures.log c.clear_room.ensures.log c.clear.ensures.items
