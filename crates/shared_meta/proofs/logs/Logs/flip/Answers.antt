use Rattle.std.proofs.Common.{◌≡◌, true, false, refl, sym, ap, subst, ◌∙◌}
use Rattle.ccfs_base.specs.Rooms.{IsFirst}
use Rattle.delta_log.specs.Deltas.{bit_call}
use Rattle.shared_meta.specs.declared.logs.Kind.TheVariants as kinds
use Rattle.shared_meta.specs.Merged.{Both}
use Rattle.shared_meta.proofs.Merged.{delta_first}
use Rattle.shared_meta.proofs.Called.{delta_loses}
use Rattle.shared_meta.proofs.logs.Logs.flip.Goals as goal
use Rattle.shared_meta.proofs.logs.Logs.flip.Goals.{then-is_delta_next, else-is_delta_next}

pub returns-in_err-bit-clause-first : goal.returns-in_err-bit-clause-first
returns-in_err-bit-clause-first c f =
    let h = delta_first c.self.inside.order.items c.self.inside.ranges.room c.self.inside.deltas.room (bit_call c.args.stream c.args.off c.args.bit c.args.on) refl c.self.invariant (f.0, ap (λ (b : Both). b.room) c.self.view_is ∙ f.1) in
    let e : false ≡ true = c.in_err-bit.ensures.first h.1 in
    absurd cc

pub returns-else-first-clause-ok : goal.returns-else-first-clause-ok
returns-else-first-clause-ok c =
    let n : IsFirst kinds.Delta c.self.inside.order.items → IsFirst (bit_call c.args.stream c.args.off c.args.bit c.args.on) c.self.inside.deltas.room → ⊥ = λ o f. elim c.if-is_delta_next.branch [
      | then-is_delta_next w ↦ let e : true ≡ false = sym (w.is_first_bit-first.ensures.back f) ∙ sym w.first-is ∙ c.if-first.false in absurd cc
      | else-is_delta_next w ↦ let e : true ≡ false = sym (c.is_delta_next.ensures.back (subst (IsFirst kinds.Delta) (sym c.deref.ensures.value) o)) ∙ w.if-is_delta_next.false in absurd cc
    ] in
    delta_loses c.self.inside.ranges.logs c.self.inside.deltas.logs c.bit.new.self.logs c.clear_room.new.self.logs c.clear_room-else-first.new.self.logs c.self.inside.order.items c.clear.new.self.items
    c.self.inside.ranges.room c.self.inside.deltas.room c.clear_room.new.self.room c.clear_room-else-first.new.self.room (bit_call c.args.stream c.args.off c.args.bit c.args.on) c.args.self.now
    refl refl c.self.view_is c.self.invariant n c.in_ok-bit.ensures.ok.log c.clear_room-else-first.ensures.log c.clear_room.ensures.log c.clear.ensures.items
