use Rattle.std.proofs.Common.{◌≡◌, take}
use Rattle.stream_cuts.specs.Streams.{no_counts}
use Rattle.stream_cuts.specs.Cuts.{cut_of}
use Rattle.plain_model.proofs.cutting.number_in.Given as goal

abbrev pub invariant-loop-of : goal.invariant-loop-of
invariant-loop-of l = l.kept ≡ cut_of no_counts (take l.of-index l.seals) l.stream
