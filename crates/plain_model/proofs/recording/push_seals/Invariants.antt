use Rattle.std.proofs.Common.{◌≡◌, ◌++◌, drop, map}
use Rattle.stream_cuts.specs.Streams as streams
use Rattle.plain_model.specs.Steps.{steps_of}
use Rattle.plain_model.proofs.recording.push_seals.Given as goal

abbrev pub invariant-loop-stream : goal.invariant-loop-stream
invariant-loop-stream l = steps_of l.steps.items ++ map streams.Seal (drop l.stream-index l.sealed) ≡ steps_of l.fn.steps.items ++ map streams.Seal l.fn.sealed
