use Rattle.std.proofs.Common.{◌≡◌}
use Rattle.std.specs.Prelude.{None}
use Rattle.image_model.specs.Volumes.{volume_of}
use Rattle.image_model.specs.Lowest.{lowest}
use Rattle.image_model.specs.Checks.{is_bad_bit}
use Rattle.image_model.proofs.first.has_bad_bit.Given as goal

-- no data block so far is marked wrong
abbrev pub invariant-loop-item : goal.invariant-loop-item
invariant-loop-item l = lowest (is_bad_bit (volume_of l.geometry l.bytes)) l.item ≡ None
