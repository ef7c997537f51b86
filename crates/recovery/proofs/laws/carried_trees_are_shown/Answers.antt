use Rattle.recovery.proofs.Carried as carried
use Rattle.recovery.proofs.laws.carried_trees_are_shown.Goals as goal

pub returns : goal.returns
returns c = carried.carried_trees_are_shown
