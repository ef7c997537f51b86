-- The fields of the metadata of a volume, and where each stands. Places are counted in bytes from the volume's start.
use Rattle.std.specs.Prelude.{ℕ, ◌+◌, ◌-◌, ◌*◌, ◌/◌, ◌%◌, ◌<◌, Option, option_map, List, slice_index}
use Rattle.byteorder.specs.Endian.{little_number}
use Rattle.block_layout.specs.Sizes.{block_size, volume_start, slot_table_start}
use Rattle.inode_table.specs.declared.attrs.Attr.{Attr}
use Rattle.inode_table.specs.Attrs.{kind_of}
use Rattle.inode_table.specs.Records.{record_offset}
use Rattle.ccfs_base.specs.Places.{Place, Range, Bit}

-- ---- places

-- where a block of the image begins: block 261 at the byte 4,096
abbrev pub block_place : ℕ → ℕ
block_place block = block_size * (block - volume_start)

-- the blocks of the counters, of the bits of data blocks and of the bits of inodes
abbrev pub counter_block : ℕ
counter_block = 260

abbrev pub block_bits : ℕ
block_bits = 261

abbrev pub inode_bits : ℕ
inode_bits = 262

-- the bytes of a slot, of which the first 69 are looked at
abbrev pub slot_stride : ℕ
slot_stride = 128

abbrev pub slot_size : ℕ
slot_size = 69

-- how many slots stand in a block
abbrev pub slots_per_block : ℕ
slots_per_block = 32

-- the block in which the slot of an inode stands, where there are so many inodes: of 64 inodes that of inode 33 is block 268
abbrev pub slot_block : ℕ → ℕ → ℕ
slot_block inodes inode = slot_table_start inodes + inode / slots_per_block

-- where that slot begins: of 64 inodes that of inode 33 at byte 128 of block 268, which is the byte 32,896
abbrev pub slot_offset : ℕ → ℕ → ℕ
slot_offset inodes inode = block_place (slot_block inodes inode) + slot_stride * (inode % slots_per_block)

-- how many pages a record has pointers for
abbrev pub direct_pages : ℕ
direct_pages = 24

-- where the pointer of one of these pages stands: of page 2 of inode 0 at byte 72 of its record
abbrev pub direct_place : ℕ → ℕ → ℕ
direct_place inode page = record_offset inode + 64 + 4 * page

-- where the pointer to the indirect block stands
abbrev pub indirect_place : ℕ → ℕ
indirect_place inode = record_offset inode + 160

-- ---- fields

pub data Field : Type 0 where
  -- the counter block: the batch number, the free data blocks, the free inodes and the format
  Number FreeBlocks FreeInodes Format : Field
  -- whether a data block is used, counted from the first data block, and whether an inode is
  BlockBit : (item : ℕ) → Field
  InodeBit : (inode : ℕ) → Field
  -- the record of an inode: its kind, its length and its changes
  Kind : (inode : ℕ) → Field
  Length : (inode : ℕ) → Field
  Changes : (inode : ℕ) → Field
  -- the pointers of a record: of one of the first 24 pages, and to the indirect block
  Direct : (inode page : ℕ) → Field
  Indirect : (inode : ℕ) → Field
  -- the slot of an inode
  Slot : (inode : ℕ) → Field

-- where a field stands, where there are so many inodes
abbrev pub place : ℕ → Field → Place
place inodes Number = Range 0 8
place inodes FreeBlocks = Range 8 8
place inodes FreeInodes = Range 16 8
place inodes Format = Range 24 4
place inodes (BlockBit item) = Bit (block_place block_bits + item / 8) (item % 8)
place inodes (InodeBit inode) = Bit (block_place inode_bits + inode / 8) (inode % 8)
place inodes (Kind inode) = Range (record_offset inode) 1
place inodes (Length inode) = Range (record_offset inode + 8) 8
place inodes (Changes inode) = Range (record_offset inode + 16) 8
place inodes (Direct inode page) = Range (direct_place inode page) 4
place inodes (Indirect inode) = Range (indirect_place inode) 4
place inodes (Slot inode) = Range (slot_offset inodes inode) slot_size

-- a volume of so many inodes has the field. A block of bits has 32,768 of them
abbrev pub IsField : ℕ → Field → Type 0
IsField inodes Number = Unit {0}
IsField inodes FreeBlocks = Unit {0}
IsField inodes FreeInodes = Unit {0}
IsField inodes Format = Unit {0}
IsField inodes (BlockBit item) = item < 32768
IsField inodes (InodeBit inode) = inode < inodes
IsField inodes (Kind inode) = inode < inodes
IsField inodes (Length inode) = inode < inodes
IsField inodes (Changes inode) = inode < inodes
IsField inodes (Direct inode page) = (inode < inodes) × (page < direct_pages)
IsField inodes (Indirect inode) = inode < inodes
IsField inodes (Slot inode) = inode < inodes

-- ---- what the fields of an inode tell together

-- the attributes of a kind's byte and the bytes of the length and the changes
abbrev pub attr_told : List ℕ → List ℕ → List ℕ → Option Attr
attr_told kind long changes =
    option_map (λ k. record { kind = k; length = little_number 8 long; changes = little_number 8 changes }) (kind_of (slice_index kind 0))
