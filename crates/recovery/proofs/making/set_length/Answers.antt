use Rattle.std.proofs.lemmas.Result.{IfOk-equal}
use Rattle.recovery.proofs.making.set_length.Goals as goal

pub returns-clause-steady : goal.returns-clause-steady
returns-clause-steady g c = IfOk-equal c.sync.result _ _ _ c.sync.ensures.steady c.in_ok-set_size.ensures.steady
