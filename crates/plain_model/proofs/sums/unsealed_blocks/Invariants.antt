use Rattle.std.proofs.Common.{◌≡◌, ◌+◌, ◌≤◌, drop, min}
use Rattle.tree_cuts.specs.Calls.{unsealed_blocks}
use Rattle.plain_model.specs.Bounds.{most}
use Rattle.plain_model.proofs.sums.unsealed_blocks.Given as goal

abbrev pub invariant-loop-charge : goal.invariant-loop-charge
invariant-loop-charge l = record { same : min (l.sum + unsealed_blocks (drop l.charge-index l.unsealed)) most ≡ min (unsealed_blocks l.unsealed) most; few : l.sum ≤ most }
