use Rattle.std.proofs.Common.{◌≡◌, ◌+◌, ◌≤◌, drop, min}
use Rattle.stream_cuts.specs.Streams.{without}
use Rattle.tree_cuts.specs.Calls.{unsealed_rows}
use Rattle.plain_model.specs.Bounds.{most}
use Rattle.plain_model.proofs.sums.rows_of_others.Given as goal

abbrev pub invariant-loop-of : goal.invariant-loop-of
invariant-loop-of l = record { same : min (l.sum + unsealed_rows (without l.stream (drop l.of-index l.unsealed))) most ≡ min (unsealed_rows (without l.stream l.unsealed)) most; few : l.sum ≤ most }
