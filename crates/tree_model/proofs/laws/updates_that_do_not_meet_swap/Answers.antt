use Rattle.tree_model.proofs.Swapping.{swaps}
use Rattle.tree_model.proofs.laws.updates_that_do_not_meet_swap.Goals as goal

pub returns : goal.returns
returns c = swaps
