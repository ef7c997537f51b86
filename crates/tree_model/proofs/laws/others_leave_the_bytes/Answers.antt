use Rattle.tree_model.proofs.Untouched.{untouched}
use Rattle.tree_model.proofs.laws.others_leave_the_bytes.Goals as goal

pub returns : goal.returns
returns c = untouched
