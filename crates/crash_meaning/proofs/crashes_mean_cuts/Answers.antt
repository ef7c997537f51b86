use Rattle.crash_meaning.proofs.Cuts as laws
use Rattle.crash_meaning.proofs.crashes_mean_cuts.Goals as goal

pub returns-clause-histories : goal.returns-clause-histories
returns-clause-histories c = laws.crashes_mean_cuts

pub returns-clause-scripts : goal.returns-clause-scripts
returns-clause-scripts c = laws.script_crashes_mean_cuts
