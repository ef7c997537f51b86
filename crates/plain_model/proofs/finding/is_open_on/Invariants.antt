use Rattle.std.proofs.Common.{◌≡◌, drop}
use Rattle.history_model.specs.State.{is_open_on}
use Rattle.plain_model.proofs.finding.is_open_on.Given as goal

abbrev pub invariant-loop-opened : goal.invariant-loop-opened
invariant-loop-opened l = is_open_on (drop l.opened-index l.handles) l.file ≡ is_open_on l.handles l.file
