use Rattle.std.proofs.Common.{◌≡◌, false, take}
use Rattle.std.specs.List.{filter_map, list_any}
use Rattle.tree_model.specs.Keys.{clash}
use Rattle.tree_model.proofs.keys.any_clashes.Given as goal

abbrev pub invariant-loop-slot : goal.invariant-loop-slot
invariant-loop-slot l = list_any (clash l.key) (filter_map (λ slot. slot) (take l.slot-index l.slots)) ≡ false
