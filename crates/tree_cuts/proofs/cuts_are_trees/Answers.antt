use Rattle.tree_cuts.proofs.Laws as laws
use Rattle.tree_cuts.proofs.cuts_are_trees.Goals as goal

pub returns : goal.returns
returns c = laws.cuts_are_trees
