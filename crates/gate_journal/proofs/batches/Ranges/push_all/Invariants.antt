use Rattle.std.proofs.Common.{◌≡◌, ◌++◌, take}
use Rattle.gate_journal.proofs.batches.Ranges.push_all.Given as goal

abbrev pub invariant-loop-range : goal.invariant-loop-range
invariant-loop-range l = l.self ≡ l.fn.self ++ take l.range-index l.ranges
