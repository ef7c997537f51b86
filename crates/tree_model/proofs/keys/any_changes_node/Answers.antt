use Rattle.std.proofs.Common.{◌≡◌, ◌<◌, false, length, take, sym, ◌∙◌, arith}
use Rattle.std.specs.List.{list_any}
use Rattle.tree_model.specs.Laws.{is_changed_node}
use Rattle.tree_model.proofs.Slots.{somes, more_none, all_somes, found, none_more}
use Rattle.tree_model.proofs.keys.any_changes_node.Goals as goal
use Rattle.tree_model.proofs.keys.any_changes_node.Goals.{in-Some+else-is_changed_node, in_default}

pub returns-then-is_changed_node : goal.returns-then-is_changed_node
returns-then-is_changed_node c =
    sym (found (is_changed_node c.args.row) c.args.slots.now c.loop-slot.slot-index c.slot-item.result c.in-Some.key c.loop-slot-test.true (sym c.slot-item.is ∙ c.in-Some.is) (sym c.is_changed_node.ensures ∙ c.if-is_changed_node.true))

pub loop-slot-preserved : goal.loop-slot-preserved
loop-slot-preserved c =
    let key = c.args.row in
    let slots = c.args.slots.now in
    let i = c.loop-slot.slot-index in
    let within : i < length slots = c.loop-slot-test.true in
    let before : list_any (is_changed_node key) (somes (take i slots)) ≡ false = c.loop-slot.invariant in
    elim c.match-slot.branch [
      | in-Some+else-is_changed_node w ↦ none_more (is_changed_node key) slots i c.slot-item.result w.in-Some.key within (sym c.slot-item.is ∙ w.in-Some.is) (sym w.is_changed_node.ensures ∙ w.if-is_changed_node.false) before
      | in_default w ↦ rw (more_none slots i c.slot-item.result within (sym c.slot-item.is ∙ w.in_default.is)) before
    ]

pub returns : goal.returns
returns c =
    let none : list_any (is_changed_node c.args.row) (somes (take c.loop-slot.slot-index c.args.slots.now)) ≡ false = c.loop-slot.invariant in
    sym (rw (all_somes c.args.slots.now c.loop-slot.slot-index (omega arith)) at none)
