use Rattle.tree_cuts.proofs.Laws as laws
use Rattle.tree_cuts.proofs.kept_updates_apply.Goals as goal

pub returns : goal.returns
returns c = laws.kept_updates_apply
