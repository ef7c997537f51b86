-- The calls that are answered are those of a script that isn't too long.
use Rattle.ccfs_top.proofs.Fewness.{few_calls}
use Rattle.ccfs_top.proofs.script.read_calls.Goals as goal

pub returns-in-Ok-clause-few : goal.returns-in-Ok-clause-few
returns-in-Ok-clause-few g c = few_calls c.deref.result.now c.in-Ok.calls.items c.in-Ok.ensures.short c.in-Ok.ensures.calls
