use Rattle.crash_meaning.proofs.Trees as laws
use Rattle.crash_meaning.proofs.images_recover_to_trees.Goals as goal

pub returns-clause-all : goal.returns-clause-all
returns-clause-all c = laws.images_recover_to_trees

pub returns-clause-for_now : goal.returns-clause-for_now
returns-clause-for_now c = laws.these_for_now
