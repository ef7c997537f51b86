use Rattle.image_model.proofs.SoundVolumes as volumes
use Rattle.image_model.proofs.sound.bare_volumes_are_bare.Goals as goal

pub returns : goal.returns
returns c = volumes.bare_volumes_are_bare
