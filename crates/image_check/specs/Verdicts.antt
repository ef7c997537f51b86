-- What the checks of a volume answer.
use Rattle.std.specs.Prelude.{◌≡◌, ℕ, Option, Some, None, option_map, List, [], ◌∷◌}
use Rattle.image_model.specs.declared.check.Check.{Check}
use Rattle.image_model.specs.declared.check.Check.TheVariants as checks
use Rattle.image_model.specs.Volumes.{Volume}
use Rattle.image_model.specs.Checks.{bare, failure, first_of}
use Rattle.image_check.specs.declared.kinds.CheckFault.{CheckFault}
use Rattle.image_check.specs.declared.kinds.CheckFault.TheVariants as faults
use Rattle.image_check.specs.Kinds.{told}

-- the checks of inodes, and those of blocks, each in their order
abbrev pub inode_checks : List Check
inode_checks = checks.Root ∷ checks.Record ∷ checks.Slot ∷ checks.Twin ∷ checks.Ring ∷ []

abbrev pub block_checks : List Check
block_checks = checks.Pointer ∷ checks.Bits ∷ checks.Counts ∷ []

-- the first of these checks of a volume that fails. None of them looks at the number of the last open batch
abbrev pub first_among : Volume → List Check → Option (Check × ℕ)
first_among v these = first_of (failure bare None v) these

-- a fault tells the check that fails. Want of memory tells nothing
abbrev pub Tells : Option (Check × ℕ) → CheckFault → Type 0
Tells failed faults.NoMemory = Unit {0}
Tells failed (faults.Bad bad) = option_map told failed ≡ Some bad
