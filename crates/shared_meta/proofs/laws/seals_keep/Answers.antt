use Rattle.shared_meta.proofs.AreaLaws.{seals_keep}
use Rattle.shared_meta.proofs.laws.seals_keep.Goals as goal

pub returns : goal.returns
returns c = seals_keep
