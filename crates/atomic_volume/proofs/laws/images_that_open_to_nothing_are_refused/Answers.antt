use Rattle.atomic_volume.proofs.Broken.{nothing_opened_is_refused}
use Rattle.atomic_volume.proofs.laws.images_that_open_to_nothing_are_refused.Goals as goal

pub returns : goal.returns
returns c = nothing_opened_is_refused c.args.image.now c.requires
