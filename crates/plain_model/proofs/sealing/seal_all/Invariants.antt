use Rattle.std.proofs.Common.{◌≡◌, drop, map}
use Rattle.stream_cuts.specs.Streams.{Seal, unsealed_after}
use Rattle.plain_model.proofs.sealing.seal_all.Given as goal

abbrev pub invariant-loop-stream : goal.invariant-loop-stream
invariant-loop-stream l = unsealed_after l.unsealed.items (map Seal (drop l.stream-index l.streams)) ≡ unsealed_after l.fn.unsealed.items (map Seal l.streams)
