use Rattle.stream_cuts.proofs.Laws as laws
use Rattle.stream_cuts.proofs.kept_apply.Goals as goal

pub returns : goal.returns
returns g c = let t = g.T.Updating in laws.kept_apply t.Applies t.apply t.Meet
