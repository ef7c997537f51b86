use Rattle.std.proofs.Common.{◌≡◌, drop}
use Rattle.history_model.specs.State.{file_in}
use Rattle.plain_model.proofs.finding.file_in.Given as goal

abbrev pub invariant-loop-opened : goal.invariant-loop-opened
invariant-loop-opened l = file_in (drop l.opened-index l.handles) l.actor l.number ≡ file_in l.handles l.actor l.number
