use Rattle.std.proofs.Common.{length}
use Rattle.worked_rows.proofs.playing.said.Given as goal

abbrev pub decreases-loop-line : goal.decreases-loop-line
decreases-loop-line l = length l.rest
