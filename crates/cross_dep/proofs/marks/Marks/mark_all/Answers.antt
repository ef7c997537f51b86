use Rattle.std.proofs.Common.{◌+◌, ◌<◌, ◌||◌, length, take, sym, ap, ◌∙◌, arith}
use Rattle.std.specs.List.{list_any}
use Rattle.tree_model.specs.declared.keys.Key.{Key}
use Rattle.tree_model.specs.Keys.{clash}
use Rattle.tree_model.proofs.Slots.{somes, more_some, more_none}
use Rattle.cross_dep.specs.Kept.{Held}
use Rattle.cross_dep.proofs.Keyed.{marked_more}
use Rattle.cross_dep.proofs.marks.Marks.mark_all.Goals as goal
use Rattle.cross_dep.proofs.marks.Marks.mark_all.Goals.{in-Some, in_default}

pub loop-slot-preserved : goal.loop-slot-preserved
loop-slot-preserved c =
    let slots = c.key_slots.result in
    let i = c.loop-slot.slot-index in
    let within : i < length slots = omega (arith, c.type_inv.slot-items, c.loop-slot-test.true) in
    let any = λ (key : Key) (held : Held). list_any (clash key) held.keys in
    elim c.match-slot.branch [
      | in-Some w ↦ record {
        tells = λ key.
            marked_more (clash key) (any key c.match-slot.self) (any key c.loop-slot.self) (any key c.args.self.now) (somes (take i slots)) (somes (take (i + 1) slots)) w.in-Some.key
            (ap (any key) w.self-is ∙ w.mark.ensures.tells key) (c.loop-slot.invariant.tells key) (more_some slots i c.slot-item.result w.in-Some.key within w.in-Some.is);
        few = omega (arith, ap (λ (held : Held). length held.keys) w.self-is, w.mark.ensures.few, c.loop-slot.invariant.few);
        places = omega (arith, ap (λ (held : Held). held.places) w.self-is, w.mark.ensures.places, c.loop-slot.invariant.places);
      }
      | in_default w ↦ record {
        tells = λ key.
            ap (any key) w.self-is ∙ c.loop-slot.invariant.tells key
            ∙ ap (λ keys. any key c.args.self.now || list_any (clash key) keys) (sym (more_none slots i c.slot-item.result within w.in_default.is));
        few = omega (arith, ap (λ (held : Held). length held.keys) w.self-is, c.loop-slot.invariant.few);
        places = omega (arith, ap (λ (held : Held). held.places) w.self-is, c.loop-slot.invariant.places);
      }
    ]
