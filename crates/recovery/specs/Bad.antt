-- Why an image doesn't recover: the first check that fails, and the block that is told.
use Rattle.std.specs.Prelude.{◌≡◌, ℕ, Some, None, List}
use Rattle.block_layout.specs.declared.superblock.SuperField.{SuperField}
use Rattle.atomic_volume.specs.declared.fault.VolumeFault.TheVariants as volume
use Rattle.atomic_volume.specs.Opening.{Contents, opened}
use Rattle.atomic_volume.specs.Refusals.{Refuses}
use Rattle.image_model.specs.declared.check.Check.{Check}
use Rattle.image_model.specs.declared.check.Check.TheVariants as checks
use Rattle.image_model.specs.Checks.{first_failure_for_now}
use Rattle.image_check.specs.declared.kinds.BadKind.{BadKind}
use Rattle.image_check.specs.declared.kinds.BadKind.TheVariants.{Size, Super, Journal, Format, Root, Record, Slot, Twin, Ring, Pointer, Bits, Counts}
use Rattle.recovery.specs.declared.fault.OpenFault.{OpenFault}
use Rattle.recovery.specs.declared.fault.OpenFault.TheVariants.{Device, Bad, NoMemory}
use Rattle.recovery.specs.Recovering.{volume_in, recovered_for_now}

-- An image opens as a volume, but this check of the volume is the first that fails, in this block. Until files have bytes and may
-- stay open without a name, a file with bytes fails the check of records, and one without a name that of slots.
pub record Fails (c : List ℕ) (check : Check) (block : ℕ) : Type 0 where
  pub contents : Contents
  pub opens : opened c ≡ Some contents
  pub first : first_failure_for_now contents.last (volume_in contents) ≡ Some (check, block)

-- A kind says what is wrong with an image, and the block where: the length and the superblock are told in block 0, a broken
-- batch in the block where it begins, and what is wrong with the volume in the block that its check tells.
abbrev pub IsBad : List ℕ → BadKind → ℕ → Type 0
IsBad c Size block = (block ≡ 0) × Refuses c volume.BadLength
IsBad c Super block = (block ≡ 0) × ((field : SuperField) × Refuses c (volume.BadSuper field))
IsBad c Journal block = (half : ℕ) × (batch : ℕ) × Refuses c (volume.BadJournal half batch block)
IsBad c Format block = Fails c checks.Format block
IsBad c Root block = Fails c checks.Root block
IsBad c Record block = Fails c checks.Record block
IsBad c Slot block = Fails c checks.Slot block
IsBad c Twin block = Fails c checks.Twin block
IsBad c Ring block = Fails c checks.Ring block
IsBad c Pointer block = Fails c checks.Pointer block
IsBad c Bits block = Fails c checks.Bits block
IsBad c Counts block = Fails c checks.Counts block

-- what a fault says of an image: nothing, but where it is bad
abbrev pub Says : List ℕ → OpenFault → Type 0
Says c Device = Unit {0}
Says c NoMemory = Unit {0}
Says c (Bad bad) = IsBad c bad.kind bad.block

-- ---- laws

-- an image that is bad, of whatever kind, recovers to nothing
abbrev pub BadRecoverToNothing : Type 0
BadRecoverToNothing = (c : List ℕ) (kind : BadKind) (block : ℕ) → IsBad c kind block → recovered_for_now c ≡ None

-- and one that recovers to nothing is bad, of some kind and in some block
abbrev pub NothingIsBad : Type 0
NothingIsBad = (c : List ℕ) → recovered_for_now c ≡ None → (kind : BadKind) × (block : ℕ) × IsBad c kind block
