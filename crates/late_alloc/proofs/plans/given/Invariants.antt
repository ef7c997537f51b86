use Rattle.std.proofs.Common.{◌≡◌, ◌++◌, drop}
use Rattle.late_alloc.specs.Reaches.{given_by}
use Rattle.late_alloc.proofs.plans.given.Given as goal

abbrev pub invariant-loop-reach : goal.invariant-loop-reach
invariant-loop-reach l = l.given.items ++ given_by l.maps (drop l.reach-index l.reaches) ≡ given_by l.maps l.reaches
