-- What is told of a check that fails.
use Rattle.std.specs.Prelude.{◌≡◌, ℕ, Option, Some, List, codes}
use Rattle.image_model.specs.declared.check.Check.{Check}
use Rattle.image_model.specs.declared.check.Check.TheVariants as checks
use Rattle.image_check.specs.declared.kinds.BadKind.{BadKind}
use Rattle.image_check.specs.declared.kinds.BadKind.TheVariants.{Size, Super, Journal, Format, Root, Record, Slot, Twin, Ring, Pointer, Bits, Counts}
use Rattle.image_check.specs.declared.kinds.BadImage.{BadImage}
use Rattle.image_check.specs.declared.kinds.CheckFault.{CheckFault}
use Rattle.image_check.specs.declared.kinds.CheckFault.TheVariants as faults

-- how a kind is spelled where it is printed: `Root` where the root is no directory
abbrev pub kind_name : BadKind → List ℕ
kind_name Size = codes "Size"
kind_name Super = codes "Super"
kind_name Journal = codes "Journal"
kind_name Format = codes "Format"
kind_name Root = codes "Root"
kind_name Record = codes "Record"
kind_name Slot = codes "Slot"
kind_name Twin = codes "Twin"
kind_name Ring = codes "Ring"
kind_name Pointer = codes "Pointer"
kind_name Bits = codes "Bits"
kind_name Counts = codes "Counts"

-- the kind of a check of the volume: each has its own
abbrev pub kind_of : Check → BadKind
kind_of checks.Format = Format
kind_of checks.Root = Root
kind_of checks.Record = Record
kind_of checks.Slot = Slot
kind_of checks.Twin = Twin
kind_of checks.Ring = Ring
kind_of checks.Pointer = Pointer
kind_of checks.Bits = Bits
kind_of checks.Counts = Counts

-- a check that fails, and the block where: of the check Ring in block 265 the kind Ring and this block
abbrev pub told : Check × ℕ → BadImage
told failed = record { kind = kind_of failed.0; block = failed.1 }

-- the fault of a check that fails in a block
abbrev pub Refuses : Check → Option ℕ → CheckFault → Type 0
Refuses check block faults.NoMemory = ⊥
Refuses check block (faults.Bad bad) = (bad.kind ≡ kind_of check) × (block ≡ Some bad.block)
