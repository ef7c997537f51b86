use Rattle.std.proofs.Common.{◌≡◌, ◌+◌, ◌≤◌, drop, min}
use Rattle.tree_cuts.specs.Calls.{unsealed_weight}
use Rattle.plain_model.specs.Bounds.{most}
use Rattle.plain_model.proofs.sums.unsealed_weight.Given as goal

abbrev pub invariant-loop-of : goal.invariant-loop-of
invariant-loop-of l = record { same : min (l.sum + unsealed_weight l.stream (drop l.of-index l.unsealed)) most ≡ min (unsealed_weight l.stream l.unsealed) most; few : l.sum ≤ most }
