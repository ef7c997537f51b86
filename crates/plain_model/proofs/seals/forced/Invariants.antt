use Rattle.std.proofs.Common.{◌≡◌, ◌≤◌, ◌++◌, drop, length}
use Rattle.std.specs.Prelude.{◌==◌, ◌&&◌, not}
use Rattle.std.specs.List.{filter, list_any}
use Rattle.tree_model.specs.Keys.{meets}
use Rattle.plain_model.proofs.seals.forced.Given as goal

abbrev pub invariant-loop-stream : goal.invariant-loop-stream
invariant-loop-stream l = record { same : l.all.items ++ filter (λ r. not (r == l.own) && list_any (λ e. e.0 == r && meets e.1.0 l.update) l.unsealed) (drop l.stream-index l.streams) ≡ filter (λ r. not (r == l.own) && list_any (λ e. e.0 == r && meets e.1.0 l.update) l.unsealed) l.streams; few : length l.all.items ≤ l.stream-index }
