use Rattle.std.proofs.Common.{◌≡◌, ℕ, true, false, take}
use Rattle.free_maps.specs.Maps.{is_set}
use Rattle.front_laws.specs.Inodes.{has}
use Rattle.front_core.proofs.free.mark_all.Given as goal

-- the inodes of the list before this one are marked, and the others are as before
abbrev pub invariant-loop-inode : goal.invariant-loop-inode
invariant-loop-inode l = record {
  own : (i : ℕ) → has i (take l.inode-index l.inodes) ≡ true → is_set l.taken.bytes i ≡ l.on;
  others : (i : ℕ) → has i (take l.inode-index l.inodes) ≡ false → is_set l.taken.bytes i ≡ is_set l.fn.taken.bytes i;
  count : l.taken.count ≡ l.fn.taken.count;
}
