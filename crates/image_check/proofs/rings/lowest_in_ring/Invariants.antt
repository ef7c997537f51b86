use Rattle.std.proofs.Common.{◌≡◌}
use Rattle.std.specs.Prelude.{None}
use Rattle.image_model.specs.Lowest.{lowest}
use Rattle.image_model.specs.Checks.{is_in_ring}
use Rattle.image_check.specs.Tables.{seen}
use Rattle.image_check.specs.Marks.{AreMarks}
use Rattle.image_check.proofs.rings.lowest_in_ring.Given as goal

-- no inode so far is in a ring
abbrev pub invariant-loop-inode : goal.invariant-loop-inode
invariant-loop-inode l = record {
  marks : AreMarks (seen l.table) l.marks.items;
  none : lowest (is_in_ring (seen l.table)) l.inode ≡ None;
}
