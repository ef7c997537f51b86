use Rattle.gate_journal.proofs.ReadSteps.{SoFar}
use Rattle.gate_journal.proofs.reading.read_batches.Given as goal

abbrev pub invariant-loop-batch : goal.invariant-loop-batch
invariant-loop-batch l = SoFar l.size l.batch l.area l.ranges l.last l.rest
