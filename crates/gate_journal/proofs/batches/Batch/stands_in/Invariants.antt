use Rattle.std.proofs.Common.{take}
use Rattle.std.specs.List.{All}
use Rattle.gate_journal.specs.Batches.{Stands}
use Rattle.gate_journal.proofs.batches.Batch.stands_in.Given as goal

abbrev pub invariant-loop-range : goal.invariant-loop-range
invariant-loop-range l = record {
  each : All (Stands l.volume_bytes) (take l.range-index l.self.ranges);
}
