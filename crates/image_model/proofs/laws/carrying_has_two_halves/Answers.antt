use Rattle.image_model.proofs.Halves as halves
use Rattle.image_model.proofs.laws.carrying_has_two_halves.Goals as goal

pub returns : goal.returns
returns c = halves.two_halves
