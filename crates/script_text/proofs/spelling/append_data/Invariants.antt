use Rattle.std.proofs.Common.{◌≡◌, ◌++◌, length}
use Rattle.script_text.specs.Data.{data_text, more_text, pieces_of, runs_of}
use Rattle.script_text.proofs.spelling.append_data.Given as goal

abbrev pub invariant-loop-rest : goal.invariant-loop-rest
invariant-loop-rest l = l.out ++ more_text (pieces_of (runs_of l.rest)) ≡ l.fn.out ++ data_text l.fn.bytes

abbrev pub decreases-loop-rest : goal.decreases-loop-rest
decreases-loop-rest l = length l.rest
