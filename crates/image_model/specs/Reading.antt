-- What a reader of a volume is handed, and the tests that it makes of inodes.
use Rattle.std.specs.Prelude.{◌≡◌, ℕ, ◌-◌, ◌*◌, Bool, false, List, length}
use Rattle.block_layout.specs.declared.geometry.Geometry.{Geometry}
use Rattle.block_layout.specs.Sizes.{block_size, volume_start}
use Rattle.image_model.specs.declared.check.Limits.{Limits}
use Rattle.image_model.specs.declared.check.Check.{Check}
use Rattle.image_model.specs.declared.check.Check.TheVariants as checks
use Rattle.image_model.specs.Volumes.{Table, table_of, volume_of}
use Rattle.image_model.specs.Checks.{is_bad_record, is_bad_slot, is_twin, is_in_ring}

-- the bytes go to the end of an image of these sizes: of 512 blocks they are 252 blocks
abbrev pub IsWhole : Geometry → List ℕ → Type 0
IsWhole geometry bytes = length bytes ≡ block_size * (geometry.blocks - volume_start)

-- the table in these bytes
abbrev pub table_in : Geometry → List ℕ → Table
table_in geometry bytes = table_of (volume_of geometry bytes)

-- whether an inode fails a check that is made of each inode by itself
abbrev pub is_bad_inode : Check → Limits → Table → ℕ → Bool
is_bad_inode checks.Record limits t inode = is_bad_record limits t inode
is_bad_inode checks.Slot limits t inode = is_bad_slot limits t inode
is_bad_inode checks.Twin limits t inode = is_twin t inode
is_bad_inode checks.Ring limits t inode = is_in_ring t inode
is_bad_inode checks.Format limits t inode = false
is_bad_inode checks.Root limits t inode = false
is_bad_inode checks.Pointer limits t inode = false
is_bad_inode checks.Bits limits t inode = false
is_bad_inode checks.Counts limits t inode = false
