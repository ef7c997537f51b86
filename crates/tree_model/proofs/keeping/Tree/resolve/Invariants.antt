use Rattle.std.proofs.Common.{◌≡◌, length}
use Rattle.tree_model.specs.Walk.{walk}
use Rattle.tree_model.proofs.keeping.Tree.resolve.Given as goal

abbrev pub invariant-loop-name : goal.invariant-loop-name
invariant-loop-name l = walk l.self l.names l.at ≡ walk l.self l.path 0

abbrev pub decreases-loop-name : goal.decreases-loop-name
decreases-loop-name l = length l.names
