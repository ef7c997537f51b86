use Rattle.std.proofs.Common.{◌≡◌, ◌≤◌, ◌++◌, drop, length}
use Rattle.std.specs.Prelude.{◌==◌, ◌&&◌}
use Rattle.std.specs.List.{filter, list_any}
use Rattle.tree_model.specs.Laws.{changes_node}
use Rattle.plain_model.proofs.seals.changers.Given as goal

abbrev pub invariant-loop-stream : goal.invariant-loop-stream
invariant-loop-stream l = record { same : l.all.items ++ filter (λ s. list_any (λ e. e.0 == s && changes_node l.id e.1.0) l.unsealed) (drop l.stream-index l.streams) ≡ filter (λ s. list_any (λ e. e.0 == s && changes_node l.id e.1.0) l.unsealed) l.streams; few : length l.all.items ≤ l.stream-index }
