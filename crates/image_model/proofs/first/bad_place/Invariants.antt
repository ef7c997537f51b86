use Rattle.std.proofs.Common.{◌≡◌, []}
use Rattle.std.specs.Prelude.{None}
use Rattle.image_model.specs.Volumes.{volume_of}
use Rattle.image_model.specs.Lowest.{lowest}
use Rattle.image_model.specs.Checks.{is_data_block, is_bad_at}
use Rattle.image_model.proofs.first.bad_place.Given as goal

-- no place so far is bad
abbrev pub invariant-loop-at : goal.invariant-loop-at
invariant-loop-at l = lowest (is_bad_at (is_data_block (volume_of l.geometry [])) l.named) l.at ≡ None
