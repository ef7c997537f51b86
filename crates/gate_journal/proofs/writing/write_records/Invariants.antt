use Rattle.std.proofs.Common.{◌≡◌, take}
use Rattle.gate_journal.specs.Batches.{records_bytes}
use Rattle.gate_journal.proofs.writing.write_records.Given as goal

abbrev pub invariant-loop-range : goal.invariant-loop-range
invariant-loop-range l = l.out ≡ records_bytes (take l.range-index l.ranges)
