use Rattle.tree_cuts.proofs.Laws as laws
use Rattle.tree_cuts.proofs.the_next_cut_is_one_batch_on.Goals as goal

pub returns : goal.returns
returns c = laws.the_next_cut_is_one_batch_on
