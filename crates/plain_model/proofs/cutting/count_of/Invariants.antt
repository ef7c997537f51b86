use Rattle.std.proofs.Common.{◌≡◌, ◌≤◌, take}
use Rattle.stream_cuts.specs.Streams.{no_counts, entered, counts_after}
use Rattle.plain_model.specs.Steps.{steps_of}
use Rattle.plain_model.proofs.cutting.count_of.Given as goal

abbrev pub invariant-loop-step : goal.invariant-loop-step
invariant-loop-step l = record { same : l.count ≡ counts_after no_counts (entered (steps_of (take l.step-index l.steps))) l.stream; few : l.count ≤ l.step-index }
