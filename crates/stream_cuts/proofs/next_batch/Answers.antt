use Rattle.stream_cuts.proofs.Laws as laws
use Rattle.stream_cuts.proofs.next_batch.Goals as goal

pub returns : goal.returns
returns g c = let t = g.T.Updating in laws.next_batch t.Applies t.apply t.Meet
