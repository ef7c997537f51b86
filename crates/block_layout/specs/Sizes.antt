-- Which sizes an image may have, and where its parts stand. Places and sizes are counted in blocks of 4,096 bytes.
use Rattle.std.specs.Prelude.{ℕ, ◌+◌, ◌*◌, ◌/◌, ◌%◌, Bool, cond, ◌&&◌, ◌==◌, nat_le, Option, Some, None}
use Rattle.block_layout.specs.declared.geometry.BadSize.{BadSize}
use Rattle.block_layout.specs.declared.geometry.Which.TheVariants.{Blocks, Inodes}

-- the bytes of a block: block 3 begins at the byte 12,288
abbrev pub block_size : ℕ
block_size = 4096

-- the first block of the volume, which goes to the end of the image: of 512 blocks the volume has 252
abbrev pub volume_start : ℕ
volume_start = 260

-- the first block of the inode table, behind the counter block and the two bitmaps
abbrev pub inode_table_start : ℕ
inode_table_start = 263

-- the first block of the slot table, behind 16 inodes a block: of 64 inodes it is block 267
abbrev pub slot_table_start : ℕ → ℕ
slot_table_start inodes = inode_table_start + inodes / 16

-- the first data block, behind 32 slots a block: of 64 inodes it is block 269
abbrev pub data_start : ℕ → ℕ
data_start inodes = inode_table_start + 3 * inodes / 32

-- whether an image may have so many blocks: 512 and 16,384, but neither 511 nor 16,385
abbrev pub good_blocks : ℕ → Bool
good_blocks blocks = nat_le 512 blocks && nat_le blocks 16384

-- whether an image of so many blocks may have so many inodes: they are 32 to 8,192 in steps of 32, and leave 64 data
-- blocks. Of 512 blocks there may be 1,952 inodes, which leave 66, but not 1,984, which leave 63
abbrev pub good_inodes : ℕ → ℕ → Bool
good_inodes blocks inodes = nat_le 32 inodes && nat_le inodes 8192 && (inodes % 32 == 0) && nat_le (data_start inodes + 64) blocks

-- why there is no image of so many blocks and inodes, and nothing where there is one: of 511 blocks and 33 inodes the
-- blocks are refused, of 512 blocks and 33 inodes the inodes
abbrev pub bad_size : ℕ → ℕ → Option BadSize
bad_size blocks inodes =
    cond (good_blocks blocks)
    (cond (good_inodes blocks inodes) None (Some (record { which = Inodes; given = inodes })))
    (Some (record { which = Blocks; given = blocks }))
