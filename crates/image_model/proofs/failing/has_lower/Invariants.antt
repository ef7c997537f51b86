use Rattle.std.proofs.Common.{◌≡◌}
use Rattle.std.specs.Prelude.{None}
use Rattle.image_model.specs.Lowest.{lowest}
use Rattle.image_model.specs.Checks.{is_entry_at}
use Rattle.image_model.specs.Reading.{table_in}
use Rattle.image_model.proofs.failing.has_lower.Given as goal

-- no lower inode so far has the parent and the name
abbrev pub invariant-loop-lower : goal.invariant-loop-lower
invariant-loop-lower l = lowest (is_entry_at (table_in l.geometry l.bytes) l.slot.parent l.slot.name) l.lower ≡ None
