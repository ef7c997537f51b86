use Rattle.image_model.proofs.NewVolume as new
use Rattle.image_model.proofs.laws.fresh_volumes_stand.Goals as goal

pub returns : goal.returns
returns c = new.fresh_volumes_stand
