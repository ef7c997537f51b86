use Rattle.std.proofs.Common.{◌≡◌, ◌<◌, Bool, false, length, take, sym, ◌∙◌, arith}
use Rattle.std.specs.List.{list_any}
use Rattle.tree_model.specs.declared.keys.Key.{Key}
use Rattle.tree_model.specs.Keys.{clash}
use Rattle.tree_model.proofs.Slots.{somes, more_none, all_somes, found, none_more}
use Rattle.cross_dep.proofs.book.any_clashes.Goals as goal
use Rattle.cross_dep.proofs.book.any_clashes.Goals.{in-Some+else-clashes, in_default}

pub returns-then-clashes : goal.returns-then-clashes
returns-then-clashes c =
    let test : Key → Bool = λ key. list_any (clash key) c.args.marks.now.keys in
    sym (found test c.args.slots.now c.loop-slot.slot-index c.slot-item.result c.in-Some.key c.loop-slot-test.true (sym c.slot-item.is ∙ c.in-Some.is) (sym c.clashes.ensures ∙ c.if-clashes.true))

pub loop-slot-preserved : goal.loop-slot-preserved
loop-slot-preserved c =
    let test : Key → Bool = λ key. list_any (clash key) c.args.marks.now.keys in
    let slots = c.args.slots.now in
    let i = c.loop-slot.slot-index in
    let within : i < length slots = c.loop-slot-test.true in
    let before : list_any test (somes (take i slots)) ≡ false = c.loop-slot.invariant in
    elim c.match-slot.branch [
      | in-Some+else-clashes w ↦ none_more test slots i c.slot-item.result w.in-Some.key within (sym c.slot-item.is ∙ w.in-Some.is) (sym w.clashes.ensures ∙ w.if-clashes.false) before
      | in_default w ↦ rw (more_none slots i c.slot-item.result within (sym c.slot-item.is ∙ w.in_default.is)) before
    ]

pub returns : goal.returns
returns c =
    let test : Key → Bool = λ key. list_any (clash key) c.args.marks.now.keys in
    let none : list_any test (somes (take c.loop-slot.slot-index c.args.slots.now)) ≡ false = c.loop-slot.invariant in
    sym (rw (all_somes c.args.slots.now c.loop-slot.slot-index (omega arith)) at none)
