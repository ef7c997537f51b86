use Rattle.std.proofs.Common.{◌≡◌, drop}
use Rattle.stream_cuts.specs.Forced.{is_open}
use Rattle.plain_model.proofs.seals.is_open.Given as goal

abbrev pub invariant-loop-of : goal.invariant-loop-of
invariant-loop-of l = is_open (drop l.of-index l.unsealed) l.stream ≡ is_open l.unsealed l.stream
