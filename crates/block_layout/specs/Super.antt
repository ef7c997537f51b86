-- The superblock: the first 36 bytes of an image. They are the magic and seven numbers of 4 bytes, the lowest first.
use Rattle.std.specs.Prelude.{ℕ, Bool, cond, ◌==◌, Option, Some, None, List, [], ◌∷◌, ◌++◌, drop, flat_map, nat_eq, codes}
use Rattle.std.specs.List.{starts_with}
use Rattle.byteorder.specs.Endian.{little_bytes, little_number}
use Rattle.block_layout.specs.declared.superblock.SuperField.{SuperField}
use Rattle.block_layout.specs.declared.superblock.SuperField.TheVariants.{Magic, Version, Blocks, Inodes, VolumeStart, InodeTable, SlotTable, FirstData}
use Rattle.block_layout.specs.Sizes.{volume_start, inode_table_start, slot_table_start, data_start, good_blocks, good_inodes}

-- ---- writing

-- the first 8 bytes: 67 67 70 83 79 87 78 49
abbrev pub magic : List ℕ
magic = codes "CCFSOWN1"

-- the seven numbers of so many blocks and inodes: of 512 and 32 they are 1, 512, 32, 260, 263, 265 and 266
abbrev pub super_numbers : ℕ → ℕ → List ℕ
super_numbers blocks inodes = 1 ∷ blocks ∷ inodes ∷ volume_start ∷ inode_table_start ∷ slot_table_start inodes ∷ data_start inodes ∷ []

-- the superblock of so many blocks and inodes: behind the magic stand 1 0 0 0, then of 512 blocks 0 2 0 0, and so on
abbrev pub super_bytes : ℕ → ℕ → List ℕ
super_bytes blocks inodes = magic ++ flat_map (little_bytes 4) (super_numbers blocks inodes)

-- ---- reading

-- the number of 4 bytes at a place: in 7 0 2 0 0 it is 512 at the place 1. Bytes that are missing count as 0
abbrev pub number_at : ℕ → List ℕ → ℕ
number_at place bytes = little_number 4 (drop place bytes)

-- the blocks that a superblock names: of the superblock of 512 blocks they are 512
abbrev pub blocks_named : List ℕ → ℕ
blocks_named bytes = number_at 12 bytes

-- the inodes that a superblock names: of the superblock of 32 inodes they are 32
abbrev pub inodes_named : List ℕ → ℕ
inodes_named bytes = number_at 16 bytes

-- this field where it is wrong, and else what is wrong behind it: `Magic` where the magic is wrong, whatever else is
abbrev pub unless_right : SuperField → Bool → Option SuperField → Option SuperField
unless_right field right behind = cond right behind (Some field)

-- which of the named sizes is wrong, first the blocks: of 511 blocks and 33 inodes it is `Blocks`
abbrev pub sizes_wrong : List ℕ → Option SuperField
sizes_wrong bytes =
    unless_right Blocks (good_blocks (blocks_named bytes))
    (unless_right Inodes (good_inodes (blocks_named bytes) (inodes_named bytes)) None)

-- the first wrong field of a superblock, and nothing where all are right: 36 zeros have the wrong magic, and the magic
-- with 28 zeros behind it has the wrong version
abbrev pub first_wrong : List ℕ → Option SuperField
first_wrong bytes =
    unless_right Magic (starts_with nat_eq bytes magic)
    (unless_right Version (number_at 8 bytes == 1)
    (unless_right Blocks (good_blocks (blocks_named bytes))
    (unless_right Inodes (good_inodes (blocks_named bytes) (inodes_named bytes))
    (unless_right VolumeStart (number_at 20 bytes == volume_start)
    (unless_right InodeTable (number_at 24 bytes == inode_table_start)
    (unless_right SlotTable (number_at 28 bytes == slot_table_start (inodes_named bytes))
    (unless_right FirstData (number_at 32 bytes == data_start (inodes_named bytes)) None)))))))
