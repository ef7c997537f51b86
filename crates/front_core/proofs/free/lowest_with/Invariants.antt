use Rattle.std.proofs.Common.{take}
use Rattle.front_core.specs.Free.{IsLowestOf, IsThisOrIn}
use Rattle.front_core.proofs.free.lowest_with.Given as goal

abbrev pub invariant-loop-inode : goal.invariant-loop-inode
invariant-loop-inode l = IsLowestOf (IsThisOrIn l.fn.first (take l.inode-index l.inodes)) l.lowest
