use Rattle.image_model.proofs.Rooted as rooted
use Rattle.image_model.proofs.laws.rooted_is_below_the_root.Goals as goal

pub returns : goal.returns
returns c = rooted.rooted_is_below
