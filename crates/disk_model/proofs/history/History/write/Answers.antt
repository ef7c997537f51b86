use Rattle.std.proofs.Common.{rules, refl}
use Rattle.disk_model.proofs.Record.{reverse_push}
use Rattle.disk_model.proofs.history.History.write.Goals as goal

pub returns-clause-ok : goal.returns-clause-ok
returns-clause-ok c = (c.in_ok-copy.copy, search rules, record { start = refl; past = reverse_push _ _ _ c.in_ok-push.ensures.items })
