use Rattle.std.proofs.Common.{◌≡◌, drop}
use Rattle.std.specs.Prelude.{◌==◌, ◌&&◌}
use Rattle.std.specs.List.{list_any}
use Rattle.tree_model.specs.Laws.{changes_node}
use Rattle.plain_model.proofs.seals.is_changer.Given as goal

abbrev pub invariant-loop-of : goal.invariant-loop-of
invariant-loop-of l = list_any (λ e. e.0 == l.stream && changes_node l.id e.1.0) (drop l.of-index l.unsealed) ≡ list_any (λ e. e.0 == l.stream && changes_node l.id e.1.0) l.unsealed
