use Rattle.tree_model.proofs.TreeKept.{keeps}
use Rattle.tree_model.proofs.laws.an_update_keeps_a_tree.Goals as goal

pub returns : goal.returns
returns c = keeps
