use Rattle.front_core.specs.Free.{IsLowestOf}
use Rattle.front_core.proofs.Lowest.{IsOpenBelow}
use Rattle.front_core.proofs.free.FreeInodes.lowest.Given as goal

abbrev pub invariant-loop-stream : goal.invariant-loop-stream
invariant-loop-stream l = IsLowestOf (IsOpenBelow l.self l.sealed l.stream) l.lowest
