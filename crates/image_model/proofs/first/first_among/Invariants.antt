use Rattle.std.proofs.Common.{◌≡◌, drop}
use Rattle.image_model.specs.Volumes.{volume_of}
use Rattle.image_model.specs.Checks.{failure, first_of}
use Rattle.image_model.proofs.first.first_among.Given as goal

-- no check so far fails, so that the first that fails is the first of those that are left
abbrev pub invariant-loop-check : goal.invariant-loop-check
invariant-loop-check l =
    first_of (failure l.limits l.last (volume_of l.geometry l.bytes)) l.checks
    ≡ first_of (failure l.limits l.last (volume_of l.geometry l.bytes)) (drop l.check-index l.checks)
