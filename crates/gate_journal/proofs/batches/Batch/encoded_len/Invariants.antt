use Rattle.std.proofs.Common.{◌≡◌, ◌+◌, ◌-◌, ◌^◌, min, length, take}
use Rattle.gate_journal.specs.Batches.{records_bytes}
use Rattle.gate_journal.proofs.batches.Batch.encoded_len.Given as goal

abbrev pub invariant-loop-range : goal.invariant-loop-range
invariant-loop-range l = record {
  total : l.total ≡ min (16 + length (records_bytes (take l.range-index l.self.ranges))) (2 ^ 64 - 1);
}
