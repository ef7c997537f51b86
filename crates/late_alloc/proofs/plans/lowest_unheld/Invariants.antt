use Rattle.std.proofs.Common.{◌≡◌, ◌≤◌, length}
use Rattle.late_alloc.specs.Choice.{unheld_below}
use Rattle.late_alloc.proofs.plans.lowest_unheld.Given as goal

abbrev pub invariant-loop-item : goal.invariant-loop-item
invariant-loop-item l = record {
  blocks : l.blocks.items ≡ unheld_below l.free l.held l.first l.item;
  few : length l.blocks.items ≤ l.most;
}
