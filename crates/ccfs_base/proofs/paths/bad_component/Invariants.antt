use Rattle.std.proofs.Common.{ℕ, List, length}
use Rattle.ccfs_base.proofs.Spelling.{IsBehind}
use Rattle.ccfs_base.proofs.paths.bad_component.Given as goal

abbrev pub invariant-loop-rest : goal.invariant-loop-rest
invariant-loop-rest l = (ms : List (List ℕ)) × IsBehind l.text l.rest ms

abbrev pub decreases-loop-rest : goal.decreases-loop-rest
decreases-loop-rest l = length l.rest
