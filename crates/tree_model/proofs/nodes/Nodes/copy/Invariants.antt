use Rattle.std.proofs.Common.{◌≡◌}
use Rattle.tree_model.proofs.MapView.{onto}
use Rattle.tree_model.proofs.nodes.Nodes.copy.Given as goal

abbrev pub invariant-loop-id : goal.invariant-loop-id
invariant-loop-id l = onto l.nodes l.id-iterator.iter ≡ l.self
