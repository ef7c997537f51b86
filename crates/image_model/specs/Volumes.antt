-- A volume, and what its metadata tells.
use Rattle.std.specs.Prelude.{ℕ, ◌-◌, Bool, Option, List, take, drop}
use Rattle.byteorder.specs.Endian.{little_number}
use Rattle.block_layout.specs.declared.geometry.Geometry.{Geometry}
use Rattle.block_layout.specs.Sizes.{block_size, data_start}
use Rattle.inode_table.specs.declared.attrs.Attr.{Attr}
use Rattle.inode_table.specs.Attrs.{attr_of}
use Rattle.inode_table.specs.Records.{record_offset}
use Rattle.free_maps.specs.Maps.{is_set, clear_below}
use Rattle.flat_dirs.specs.declared.slot.Slot.{Slot}
use Rattle.flat_dirs.specs.Slot.{slot_in}
use Rattle.ccfs_base.specs.Places.{part}
use Rattle.image_model.specs.Fields.{block_place, block_bits, inode_bits, slot_offset, slot_size}

-- The bytes of a volume, and how many blocks and inodes its image has. Blocks go by their numbers in the image.
pub record Volume : Type 0 where
  pub blocks : ℕ
  pub inodes : ℕ
  pub bytes : List ℕ

-- the volume of an image of these sizes
abbrev pub volume_of : Geometry → List ℕ → Volume
volume_of geometry bytes = record { blocks = geometry.blocks; inodes = geometry.inodes; bytes = bytes }

-- the bytes of a block. Block 260 has the first 4,096
abbrev pub block_bytes : Volume → ℕ → List ℕ
block_bytes v block = part (block_place block) block_size v.bytes

-- the number of so many bytes at a place, the lowest first. Bytes past the end count as 0
abbrev pub number_at : ℕ → ℕ → Volume → ℕ
number_at size from v = little_number size (drop from v.bytes)

-- ---- the counter block

-- the batch number
abbrev pub number : Volume → ℕ
number v = number_at 8 0 v

-- how many data blocks are said to be free, and how many inodes
abbrev pub free_blocks : Volume → ℕ
free_blocks v = number_at 8 8 v

abbrev pub free_inodes : Volume → ℕ
free_inodes v = number_at 8 16 v

-- the format
abbrev pub format : Volume → ℕ
format v = number_at 4 24 v

-- ---- data blocks

-- the first data block, and how many there are: of 512 blocks and 32 inodes block 266 is the first of 246
abbrev pub first_data : Volume → ℕ
first_data v = data_start v.inodes

abbrev pub data_blocks : Volume → ℕ
data_blocks v = v.blocks - first_data v

-- whether a data block, counted from the first, is marked as used
abbrev pub is_block_used : Volume → ℕ → Bool
is_block_used v item = is_set (block_bytes v block_bits) item

-- how many data blocks aren't
abbrev pub clear_blocks : Volume → ℕ
clear_blocks v = clear_below (block_bytes v block_bits) (data_blocks v)

-- the metadata: all bytes before the first data block
abbrev pub metadata : Volume → List ℕ
metadata v = take (block_place (first_data v)) v.bytes

-- ---- inodes

-- What the metadata tells of inodes. Nothing is to be said of an inode that isn't below `inodes`.
pub record Table : Type 0 where
  pub inodes : ℕ
  -- whether an inode is marked as used
  pub is_used : ℕ → Bool
  -- its attributes, and nothing where its kind is none
  pub attr : ℕ → Option Attr
  -- its slot, and nothing where the length or the name is no name's
  pub slot : ℕ → Option Slot

abbrev pub is_used : Volume → ℕ → Bool
is_used v inode = is_set (block_bytes v inode_bits) inode

-- how many inodes aren't marked as used
abbrev pub clear_inodes : Volume → ℕ
clear_inodes v = clear_below (block_bytes v inode_bits) v.inodes

abbrev pub attr : Volume → ℕ → Option Attr
attr v inode = attr_of (part (record_offset inode) 24 v.bytes)

abbrev pub slot : Volume → ℕ → Option Slot
slot v inode = slot_in (part (slot_offset v.inodes inode) slot_size v.bytes)

-- the table of a volume
abbrev pub table_of : Volume → Table
table_of v = record { inodes = v.inodes; is_used = is_used v; attr = attr v; slot = slot v }
