use Rattle.std.proofs.Common.{All, take}
use Rattle.late_alloc.specs.Lengths.{IsWithin}
use Rattle.block_tests.proofs.plan_tests.are_within.Given as goal

abbrev pub invariant-loop-op : goal.invariant-loop-op
invariant-loop-op l = All (IsWithin l.inodes) (take l.op-index l.ops)
