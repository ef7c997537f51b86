use Rattle.std.proofs.Common.{◌≡◌, false, take}
use Rattle.std.specs.List.{filter_map, list_any}
use Rattle.tree_model.specs.Keys.{touches}
use Rattle.tree_model.proofs.keys.meets.Given as goal

abbrev pub invariant-loop-slot : goal.invariant-loop-slot
invariant-loop-slot l = list_any (touches l.b) (filter_map (λ slot. slot) (take l.slot-index l.slot-items)) ≡ false
