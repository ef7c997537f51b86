use Rattle.std.proofs.Common.{◌≡◌, ◌++◌}
use Rattle.std.specs.Prelude.{reverse, map}
use Rattle.std.specs.FinMap.{entries}
use Rattle.tree_model.proofs.node.Node.put_ahead.Given as goal

abbrev pub invariant-loop-id : goal.invariant-loop-id
invariant-loop-id l = l.ahead.items ++ reverse (map (λ e. (l.depth, e.1)) l.id-iterator.iter) ≡ l.fn.ahead.items ++ reverse (map (λ e. (l.depth, e.1)) (entries l.self.1))
