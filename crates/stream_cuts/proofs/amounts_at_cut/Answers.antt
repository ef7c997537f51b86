use Rattle.stream_cuts.proofs.Laws as laws
use Rattle.stream_cuts.proofs.amounts_at_cut.Goals as goal

pub returns : goal.returns
returns g c = let t = g.T.Updating in laws.amounts_at_cut t.Applies t.apply t.Meet
