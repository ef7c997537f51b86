use Rattle.std.proofs.Common.{◌≡◌}
use Rattle.tree_model.specs.Nodes.{index_of}
use Rattle.tree_model.proofs.MapView.{onto}
use Rattle.tree_model.proofs.node.Node.copy.Given as goal

abbrev pub invariant-loop-name : goal.invariant-loop-name
invariant-loop-name l = onto (index_of l.entries.entries) l.name-iterator.iter ≡ l.self.1
