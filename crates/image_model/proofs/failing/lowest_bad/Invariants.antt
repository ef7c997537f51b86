use Rattle.std.proofs.Common.{◌≡◌}
use Rattle.std.specs.Prelude.{None}
use Rattle.image_model.specs.Lowest.{lowest}
use Rattle.image_model.specs.Reading.{table_in, is_bad_inode}
use Rattle.image_model.proofs.failing.lowest_bad.Given as goal

-- no inode so far fails the check
abbrev pub invariant-loop-inode : goal.invariant-loop-inode
invariant-loop-inode l = lowest (is_bad_inode l.check l.limits (table_in l.geometry l.bytes)) l.inode ≡ None
