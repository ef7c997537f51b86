use Rattle.std.proofs.Common.{arith}
use Rattle.gate_journal.proofs.Sizes.{count_within}
use Rattle.gate_journal.proofs.writing.write_batch.Goals as goal

pub overflow_cast-len-2 : goal.overflow_cast-len-2
overflow_cast-len-2 c =
    omega (arith, count_within c.args.batch.now.ranges)
