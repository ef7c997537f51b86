use Rattle.std.proofs.Common.{arith}
use Rattle.std.proofs.lemmas.Grind.{common_steps}
use Rattle.plain_model.proofs.keeping.State.rename.Goals as goal

pub returns-in-Ok : goal.returns-in-Ok
returns-in-Ok c sizes = let e = c.rename_at.ensures sizes in let a = c.in-Ok.ensures in grind (arith, common_steps)
