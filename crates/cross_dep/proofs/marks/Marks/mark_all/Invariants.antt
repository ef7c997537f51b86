use Rattle.std.proofs.Common.{◌≡◌, ◌+◌, ◌≤◌, ◌||◌, length, take}
use Rattle.std.specs.List.{list_any, filter_map}
use Rattle.tree_model.specs.declared.keys.Key.{Key}
use Rattle.tree_model.specs.Keys.{clash}
use Rattle.cross_dep.proofs.marks.Marks.mark_all.Given as goal

abbrev pub invariant-loop-slot : goal.invariant-loop-slot
invariant-loop-slot l = record {
  tells : (key : Key) → list_any (clash key) l.self.keys ≡ (list_any (clash key) l.fn.self.keys || list_any (clash key) (filter_map (λ slot. slot) (take l.slot-index l.slot-items)));
  few : length l.self.keys ≤ length l.fn.self.keys + l.slot-index;
  places : l.fn.self.places ≤ l.self.places;
}
