use Rattle.tree_model.specs.Rows.{Rows}
use Rattle.image_check.specs.Spelled.{IsSpelled, AreMade}
use Rattle.image_check.proofs.building.make_rows.Given as goal

-- the rows so far are made
abbrev pub invariant-loop-serial : goal.invariant-loop-serial
invariant-loop-serial l = (t : Rows) → IsSpelled l.table l.inodes t → AreMade t l.tree l.serial
