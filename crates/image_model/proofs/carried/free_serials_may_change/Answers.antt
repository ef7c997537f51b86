use Rattle.image_model.proofs.CarriedSerials as serials
use Rattle.image_model.proofs.carried.free_serials_may_change.Goals as goal

pub returns : goal.returns
returns c = serials.free_serials_may_change
