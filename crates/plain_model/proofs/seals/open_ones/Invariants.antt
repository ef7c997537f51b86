use Rattle.std.proofs.Common.{◌≡◌, ◌≤◌, ◌++◌, drop, length}
use Rattle.std.specs.List.{filter}
use Rattle.stream_cuts.specs.Forced.{is_open}
use Rattle.plain_model.proofs.seals.open_ones.Given as goal

abbrev pub invariant-loop-stream : goal.invariant-loop-stream
invariant-loop-stream l = record { same : l.all.items ++ filter (is_open l.unsealed) (drop l.stream-index l.streams) ≡ filter (is_open l.unsealed) l.streams; few : length l.all.items ≤ l.stream-index }
