use Rattle.tree_model.proofs.Mutual.{meets_back}
use Rattle.tree_model.proofs.laws.meeting_is_mutual.Goals as goal

pub returns : goal.returns
returns c = meets_back
