use Rattle.image_model.proofs.NoMore as more
use Rattle.image_model.proofs.laws.bare_is_no_more.Goals as goal

pub returns : goal.returns
returns c = more.bare_is_no_more
