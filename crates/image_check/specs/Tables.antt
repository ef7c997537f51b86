-- The table that is read from a volume, as a table of the model.
use Rattle.std.specs.Prelude.{◌≡◌, ℕ, ◌<◌, false, cond, ◌&&◌, nat_lt, Option, None, List, length, slice_index_or}
use Rattle.std.specs.FinMap.{get}
use Rattle.inode_table.specs.declared.attrs.Attr.{Attr}
use Rattle.free_maps.specs.Maps.{Map, is_set}
use Rattle.flat_dirs.specs.declared.slot.Slot.{Slot}
use Rattle.flat_dirs.specs.Slots.{SlotMap}
use Rattle.image_model.specs.Fields.{block_bits, inode_bits}
use Rattle.image_model.specs.Volumes.{Volume, block_bytes, data_blocks}
use Rattle.image_model.specs.Volumes.{Table as ModelTable, table_of}
use Rattle.image_model.specs.Checks.{is_entry}
use Rattle.image_check.specs.declared.table.Table.{Table}

-- ---- bits

-- the bits of inodes of a volume, and those of its data blocks: of 512 blocks and 32 inodes 32 bits and 246
abbrev pub inode_map : Volume → Map
inode_map v = record { bytes = block_bytes v inode_bits; count = v.inodes }

abbrev pub block_map : Volume → Map
block_map v = record { bytes = block_bytes v block_bits; count = data_blocks v }

-- ---- what is kept

-- the attributes that are kept of an inode: those of a used one
abbrev pub attr_kept : ModelTable → ℕ → Option Attr
attr_kept t inode = cond (t.is_used inode) (t.attr inode) None

-- the slot that is kept of an inode: that of a used one from 2 on
abbrev pub slot_kept : ModelTable → ℕ → Option Slot
slot_kept t inode = cond (is_entry t inode && nat_lt inode t.inodes) (t.slot inode) None

-- the attributes of all inodes, in order of inodes
pub record AreAttrs (t : ModelTable) (attrs : List (Option Attr)) : Type 0 where
  pub long : length attrs ≡ t.inodes
  pub each : (inode : ℕ) → inode < t.inodes → slice_index_or attrs inode None ≡ attr_kept t inode

-- the slots of all inodes
abbrev pub AreSlots : ModelTable → SlotMap → Type 0
AreSlots t slots = (inode : ℕ) → get slots inode ≡ slot_kept t inode

-- ---- a table that was read

-- what such a table tells, as a table of the model. Of an inode that isn't used it tells neither attributes nor a slot
abbrev pub seen : Table → ModelTable
seen table = record {
  inodes = table.used.count;
  is_used = is_set table.used.bytes;
  attr = λ inode. slice_index_or table.attrs.items inode None;
  slot = get table.slots;
}

-- only used inodes from 2 on have slots
abbrev pub HasOnlyEntries : Table → Type 0
HasOnlyEntries table = (inode : ℕ) → (is_entry (seen table) inode && nat_lt inode table.used.count) ≡ false → get table.slots inode ≡ None

-- A table tells what a volume tells of its used inodes: their attributes, and of those from 2 on their slots.
pub record IsTableOf (v : Volume) (table : Table) : Type 0 where
  pub used : table.used ≡ inode_map v
  pub attrs : AreAttrs (table_of v) table.attrs.items
  pub slots : AreSlots (table_of v) table.slots
