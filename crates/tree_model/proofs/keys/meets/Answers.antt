use Rattle.std.proofs.Common.{◌≡◌, ◌<◌, true, false, length, take, sym, ap, ◌∙◌, arith, List}
use Rattle.std.specs.List.{list_any}
use Rattle.tree_model.specs.Keys.{touches, clash}
use Rattle.tree_model.specs.declared.keys.Key.{Key}
use Rattle.tree_model.proofs.Slots.{somes, more_none, found, none_more}
use Rattle.tree_model.proofs.keys.meets.Goals as goal
use Rattle.tree_model.proofs.keys.meets.Goals.{in-Some+else-any_clashes, in_default}

pub returns-then-any_clashes : goal.returns-then-any_clashes
returns-then-any_clashes c =
    let slots = c.key_slots.result in
    let key = c.in-Some.key in
    let within : c.loop-slot.slot-index < length slots = omega (arith, c.key_slots.type_inv) in
    let touched : touches c.args.b.now key ≡ true = ap (λ (keys : List Key). list_any (clash key) keys) (sym c.key_slots-of_b.ensures) ∙ sym c.any_clashes.ensures ∙ c.if-any_clashes.true in
    let one : list_any (touches c.args.b.now) (somes slots) ≡ true = found (touches c.args.b.now) slots c.loop-slot.slot-index c.slot-item.result key within c.in-Some.is touched in
    sym (rw c.key_slots.ensures at one)

pub loop-slot-preserved : goal.loop-slot-preserved
loop-slot-preserved c =
    let slots = c.key_slots.result in
    let i = c.loop-slot.slot-index in
    let within : i < length slots = omega (arith, c.type_inv.slot-items, c.loop-slot-test.true) in
    let before : list_any (touches c.args.b.now) (somes (take i slots)) ≡ false = c.loop-slot.invariant in
    elim c.match-slot.branch [
      | in-Some+else-any_clashes w ↦
          let apart : touches c.args.b.now w.in-Some.key ≡ false = ap (λ (keys : List Key). list_any (clash w.in-Some.key) keys) (sym c.key_slots-of_b.ensures) ∙ sym w.any_clashes.ensures ∙ w.if-any_clashes.false in
          none_more (touches c.args.b.now) slots i c.slot-item.result w.in-Some.key within w.in-Some.is apart before
      | in_default w ↦ rw (more_none slots i c.slot-item.result within w.in_default.is) before
    ]
