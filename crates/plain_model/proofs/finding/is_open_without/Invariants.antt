use Rattle.std.proofs.Common.{◌≡◌, drop}
use Rattle.history_model.specs.State.{is_open_on, closed}
use Rattle.plain_model.proofs.finding.is_open_without.Given as goal

abbrev pub invariant-loop-opened : goal.invariant-loop-opened
invariant-loop-opened l = is_open_on (closed (drop l.opened-index l.handles) l.actor l.number) l.file ≡ is_open_on (closed l.handles l.actor l.number) l.file
