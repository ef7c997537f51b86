use Rattle.std.proofs.Common.{◌≡◌}
use Rattle.tree_model.specs.Rows.{up}
use Rattle.image_model.specs.Checks.{parent_at}
use Rattle.image_check.specs.Tables.{seen}
use Rattle.image_check.specs.Marks.{AreMarks, AreMarkedUp}
use Rattle.image_check.proofs.rings.mark_chain.Given as goal

-- so many steps up led here, and what they passed is marked
abbrev pub invariant-loop-step : goal.invariant-loop-step
invariant-loop-step l = record {
  here : l.at ≡ up (parent_at (seen l.table)) l._step l.inode;
  marks : AreMarks (seen l.table) l.marks;
  walked : AreMarkedUp (seen l.table) l.marks l.inode l._step;
}
