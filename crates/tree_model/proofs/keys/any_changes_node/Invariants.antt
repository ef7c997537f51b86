use Rattle.std.proofs.Common.{◌≡◌, false, take}
use Rattle.std.specs.List.{filter_map, list_any}
use Rattle.tree_model.specs.Laws.{is_changed_node}
use Rattle.tree_model.proofs.keys.any_changes_node.Given as goal

abbrev pub invariant-loop-slot : goal.invariant-loop-slot
invariant-loop-slot l = list_any (is_changed_node l.row) (filter_map (λ slot. slot) (take l.slot-index l.slots)) ≡ false
