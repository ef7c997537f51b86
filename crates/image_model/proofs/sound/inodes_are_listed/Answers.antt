use Rattle.image_model.proofs.SoundVolumes as volumes
use Rattle.image_model.proofs.sound.inodes_are_listed.Goals as goal

pub returns : goal.returns
returns c = volumes.inodes_are_listed
