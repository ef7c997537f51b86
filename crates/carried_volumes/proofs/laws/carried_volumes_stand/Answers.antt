use Rattle.carried_volumes.proofs.Standing.{carried_volumes_stand}
use Rattle.carried_volumes.proofs.laws.carried_volumes_stand.Goals as goal

pub returns : goal.returns
returns c = carried_volumes_stand
