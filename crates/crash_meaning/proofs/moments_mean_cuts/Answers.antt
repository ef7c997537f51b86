use Rattle.crash_meaning.proofs.Cuts as laws
use Rattle.crash_meaning.proofs.moments_mean_cuts.Goals as goal

pub returns-clause-histories : goal.returns-clause-histories
returns-clause-histories c = laws.moments_mean_cuts

pub returns-clause-scripts : goal.returns-clause-scripts
returns-clause-scripts c = laws.script_moments_mean_cuts
