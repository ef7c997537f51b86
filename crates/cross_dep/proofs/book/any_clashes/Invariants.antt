use Rattle.std.proofs.Common.{◌≡◌, false, take}
use Rattle.std.specs.List.{filter_map}
use Rattle.cross_dep.specs.Held.{any_clashes}
use Rattle.cross_dep.proofs.book.any_clashes.Given as goal

abbrev pub invariant-loop-slot : goal.invariant-loop-slot
invariant-loop-slot l = any_clashes l.marks.keys (filter_map (λ slot. slot) (take l.slot-index l.slots)) ≡ false
