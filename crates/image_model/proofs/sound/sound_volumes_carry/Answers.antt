use Rattle.image_model.proofs.SoundVolumes as volumes
use Rattle.image_model.proofs.sound.sound_volumes_carry.Goals as goal

pub returns : goal.returns
returns c = volumes.sound_volumes_carry
