use Rattle.std.proofs.Common.{◌≡◌, ◌+◌, ◌*◌, ◌^◌, ◌≤◌, length}
use Rattle.std.specs.List.{sum_by}
use Rattle.std.specs.FinMap.{entries}
use Rattle.ccfs_base.specs.Limits.{blocks}
use Rattle.tree_model.specs.Weights.{body_bytes}
use Rattle.tree_model.proofs.nodes.Nodes.live.Given as goal

abbrev pub invariant-loop-node : goal.invariant-loop-node
invariant-loop-node l = record {
  sum : l.all + sum_by (λ e. blocks (length (body_bytes e.1.0.body))) l.node-iterator ≡ sum_by (λ e. blocks (length (body_bytes e.1.0.body))) (entries l.self);
  few : l.all + length l.node-iterator * 2 ^ 53 ≤ 2 ^ 32 * 2 ^ 53;
}
