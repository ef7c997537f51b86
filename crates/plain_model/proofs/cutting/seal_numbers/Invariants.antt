use Rattle.std.proofs.Common.{◌≡◌, ◌++◌, take, drop}
use Rattle.stream_cuts.specs.Streams.{no_counts, entered, counts_after}
use Rattle.stream_cuts.specs.Cuts.{seals, seals_from}
use Rattle.plain_model.specs.Steps.{steps_of}
use Rattle.plain_model.proofs.cutting.seal_numbers.Given as goal

abbrev pub invariant-loop-i : goal.invariant-loop-i
invariant-loop-i l = l.all.items ++ seals_from (counts_after no_counts (entered (steps_of (take l.i l.steps)))) (steps_of (drop l.i l.steps)) ≡ seals (steps_of l.steps)
