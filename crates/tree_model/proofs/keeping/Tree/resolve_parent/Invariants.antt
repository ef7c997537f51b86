use Rattle.std.proofs.Common.{◌≡◌, ◌∷◌, length}
use Rattle.tree_model.specs.Walk.{walk, front_of, last_of}
use Rattle.tree_model.proofs.keeping.Tree.resolve_parent.Given as goal

abbrev pub invariant-loop-name : goal.invariant-loop-name
invariant-loop-name l = record {
  front : walk l.self (front_of (l.last ∷ l.names)) l.at ≡ walk l.self (front_of l.path) 0;
  name : last_of (l.last ∷ l.names) ≡ last_of l.path;
}

abbrev pub decreases-loop-name : goal.decreases-loop-name
decreases-loop-name l = length l.names
