use Rattle.std.proofs.Common.{◌≡◌}
use Rattle.std.specs.Prelude.{None}
use Rattle.image_model.specs.Lowest.{lowest}
use Rattle.image_model.specs.Checks.{is_bad_slot}
use Rattle.image_check.specs.Tables.{seen}
use Rattle.image_check.proofs.single.lowest_bad_slot.Given as goal

-- no inode so far fails
abbrev pub invariant-loop-inode : goal.invariant-loop-inode
invariant-loop-inode l = lowest (is_bad_slot l.limits (seen l.table)) l.inode ≡ None
