use Rattle.stream_cuts.proofs.Laws as laws
use Rattle.stream_cuts.proofs.longer_keeps.Goals as goal

pub returns : goal.returns
returns g c = let t = g.T.Updating in laws.longer_keeps t.apply
