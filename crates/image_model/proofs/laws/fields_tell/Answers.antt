use Rattle.image_model.proofs.Told as told
use Rattle.image_model.proofs.laws.fields_tell.Goals as goal

pub returns : goal.returns
returns c = told.fields_tell _
