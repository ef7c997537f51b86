use Rattle.std.proofs.Common.{◌≡◌}
use Rattle.tree_model.specs.Rows.{up}
use Rattle.image_model.specs.Lowest.{NoneBelow}
use Rattle.image_model.specs.Checks.{parent_at}
use Rattle.image_check.specs.Tables.{seen}
use Rattle.image_check.specs.Marks.{is_marked_above}
use Rattle.image_check.proofs.rings.steps_to_mark.Given as goal

-- so many steps up led here, and no fewer to a mark
abbrev pub invariant-loop-steps : goal.invariant-loop-steps
invariant-loop-steps l = record {
  here : l.at ≡ up (parent_at (seen l.table)) l.steps l.inode;
  none : NoneBelow (is_marked_above (seen l.table) l.marks l.inode) l.steps;
}
