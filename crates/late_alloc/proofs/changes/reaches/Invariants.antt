use Rattle.std.proofs.Common.{◌≡◌, ℕ, take}
use Rattle.std.specs.BTreeMap.{get}
use Rattle.std.specs.Ordering.{nat_cmp}
use Rattle.late_alloc.proofs.Reaching.{so_far}
use Rattle.late_alloc.proofs.changes.reaches.Given as goal

abbrev pub invariant-loop-op : goal.invariant-loop-op
invariant-loop-op l = (q : ℕ) → get nat_cmp l.reaches q ≡ so_far l.maps (take l.op-index l.ops) q
