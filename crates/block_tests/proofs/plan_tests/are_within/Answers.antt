use Rattle.std.proofs.Common.{rules}
use Rattle.late_alloc.specs.Lengths.{IsWithin}
use Rattle.late_alloc.proofs.Trying.{all_more, all_taken}
use Rattle.block_tests.proofs.plan_tests.are_within.Goals as goal

pub loop-op-preserved : goal.loop-op-preserved
loop-op-preserved c =
    all_more (IsWithin c.args.inodes) c.args.ops.now c.loop-op.op-index c.op-item.result c.loop-op-test.true c.op-item.is c.loop-op.invariant (search rules)

pub returns : goal.returns
returns c = λ is. all_taken (IsWithin c.args.inodes) c.args.ops.now c.loop-op.op-index (search rules) c.loop-op.invariant
