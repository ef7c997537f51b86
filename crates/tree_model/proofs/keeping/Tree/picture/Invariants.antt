use Rattle.std.proofs.Common.{◌≡◌, ◌++◌}
use Rattle.tree_model.specs.Picture.{picture}
use Rattle.tree_model.proofs.Showing.{still, total, weight_at}
use Rattle.tree_model.proofs.keeping.Tree.picture.Given as goal

abbrev pub invariant-loop-depth : goal.invariant-loop-depth
invariant-loop-depth l = record { all : l.out ++ still l.levels l.self l.ahead.items ≡ picture l.self }

abbrev pub decreases-loop-depth : goal.decreases-loop-depth
decreases-loop-depth l = total (weight_at l.levels l.self) l.ahead.items
