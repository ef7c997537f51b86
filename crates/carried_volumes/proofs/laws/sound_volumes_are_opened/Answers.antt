use Rattle.carried_volumes.proofs.Opening.{sound_volumes_are_opened}
use Rattle.carried_volumes.proofs.laws.sound_volumes_are_opened.Goals as goal

pub returns : goal.returns
returns c = sound_volumes_are_opened
