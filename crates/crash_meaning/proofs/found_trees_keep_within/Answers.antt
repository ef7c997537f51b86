use Rattle.crash_meaning.proofs.Found as laws
use Rattle.crash_meaning.proofs.found_trees_keep_within.Goals as goal

pub returns : goal.returns
returns c = laws.found_trees_keep_within
