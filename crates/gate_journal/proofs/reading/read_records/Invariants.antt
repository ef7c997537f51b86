use Rattle.std.proofs.Common.{◌≡◌, ◌-◌, ◌++◌, List}
use Rattle.gate_journal.specs.declared.batches.Range.{Range}
use Rattle.gate_journal.specs.Batches.{ranges_at}
use Rattle.gate_journal.proofs.ReadSteps.{put_all}
use Rattle.gate_journal.proofs.reading.read_records.Given as goal

abbrev pub invariant-loop : goal.invariant-loop
invariant-loop l = (done : List Range) × (ranges_at l.size l.records l.bytes ≡ put_all done (ranges_at l.size (l.records - l.counter) l.rest)) × (l.ranges ≡ l.fn.ranges ++ done)
