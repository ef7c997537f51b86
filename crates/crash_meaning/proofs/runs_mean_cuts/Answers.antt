use Rattle.crash_meaning.proofs.Cuts as laws
use Rattle.crash_meaning.proofs.runs_mean_cuts.Goals as goal

pub returns : goal.returns
returns g c = laws.runs_mean_cuts g.D.Disk
