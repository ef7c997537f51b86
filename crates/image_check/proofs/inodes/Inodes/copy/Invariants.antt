use Rattle.std.proofs.Common.{◌≡◌, take}
use Rattle.image_check.proofs.inodes.Inodes.copy.Given as goal

-- the inodes so far are copied
abbrev pub invariant-loop-inode : goal.invariant-loop-inode
invariant-loop-inode l = l.copy ≡ take l.inode-index l.inode-items
