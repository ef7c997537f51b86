use Rattle.tree_model.specs.Rows.{Rows}
use Rattle.std.proofs.Common.{length}
use Rattle.image_check.specs.Spelled.{IsSpelled, AreMade}
use Rattle.image_check.proofs.Remade.{AreTold}
use Rattle.image_check.proofs.building.recount.Given as goal

-- the rows so far have their counts of changes
abbrev pub invariant-loop-serial : goal.invariant-loop-serial
invariant-loop-serial l = (t : Rows) (spelled : IsSpelled l.table l.inodes t) → AreMade t l.initial.tree (length l.inodes) → AreTold l.table l.inodes t spelled l.tree l.serial
