use Rattle.std.proofs.Common.{◌≡◌, true, false, refl, sym, ap, subst, ◌∙◌}
use Rattle.ccfs_base.specs.Rooms.{IsFirst}
use Rattle.range_log.specs.Ranges.{range_call}
use Rattle.shared_meta.specs.declared.logs.Kind.TheVariants as kinds
use Rattle.shared_meta.specs.Merged.{Both}
use Rattle.shared_meta.proofs.Merged.{range_first}
use Rattle.shared_meta.proofs.Called.{range_loses}
use Rattle.shared_meta.proofs.logs.Logs.put.Goals as goal
use Rattle.shared_meta.proofs.logs.Logs.put.Goals.{then-is_range_next, else-is_range_next}

pub returns-in_err-put-clause-first : goal.returns-in_err-put-clause-first
returns-in_err-put-clause-first c f =
    let h = range_first c.self.inside.order.items c.self.inside.ranges.room c.self.inside.deltas.room (range_call c.args.stream c.args.off c.args.bytes.now) refl c.self.invariant (f.0, ap (λ (b : Both). b.room) c.self.view_is ∙ f.1) in
    let e : false ≡ true = c.in_err-put.ensures.first h.1 in
    absurd cc

pub returns-else-first-clause-ok : goal.returns-else-first-clause-ok
returns-else-first-clause-ok c =
    let n : IsFirst kinds.Range c.self.inside.order.items → IsFirst (range_call c.args.stream c.args.off c.args.bytes.now) c.self.inside.ranges.room → ⊥ = λ o f. elim c.if-is_range_next.branch [
      | then-is_range_next w ↦ let e : true ≡ false = sym (w.is_first_put-first.ensures.back f) ∙ sym w.first-is ∙ c.if-first.false in absurd cc
      | else-is_range_next w ↦ let e : true ≡ false = sym (c.is_range_next.ensures.back (subst (IsFirst kinds.Range) (sym c.deref.ensures.value) o)) ∙ w.if-is_range_next.false in absurd cc
    ] in
    range_loses c.self.inside.ranges.logs c.self.inside.deltas.logs c.put.new.self.logs c.clear_room.new.self.logs c.clear_room-else-first.new.self.logs c.self.inside.order.items c.clear.new.self.items
    c.self.inside.ranges.room c.self.inside.deltas.room c.clear_room.new.self.room c.clear_room-else-first.new.self.room (range_call c.args.stream c.args.off c.args.bytes.now) c.args.self.now
    refl refl c.self.view_is c.self.invariant n c.in_ok-put.ensures.ok.log c.clear_room.ensures.log c.clear_room-else-first.ensures.log c.clear.ensures.items
