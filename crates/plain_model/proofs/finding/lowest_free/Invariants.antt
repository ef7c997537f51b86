use Rattle.std.proofs.Common.{◌≡◌, ◌+◌, ◌<◌}
use Rattle.history_model.specs.State.{lowest_free}
use Rattle.plain_model.proofs.finding.lowest_free.Given as goal

abbrev pub invariant-loop-left : goal.invariant-loop-left
invariant-loop-left l = record { range : l.number + l.left < 256; same : lowest_free l.handles l.actor l.number l.left ≡ lowest_free l.handles l.actor l.fn.from l.fn.count }

abbrev pub decreases-loop-left : goal.decreases-loop-left
decreases-loop-left l = l.left
