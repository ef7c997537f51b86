use Rattle.image_model.proofs.NoPointers as none
use Rattle.image_model.proofs.laws.bare_has_no_pointers.Goals as goal

pub returns : goal.returns
returns c = none.bare_has_no_pointers
