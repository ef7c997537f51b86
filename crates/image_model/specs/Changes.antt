-- The changes of single inodes that updates are made of: what each does to the bytes of a volume, to its table and to the bytes of
-- its files.
use Rattle.std.specs.Prelude.{ℕ, ◌+◌, ◌-◌, ◌/◌, ◌%◌, ◌^◌, Bool, true, false, cond, ◌==◌, Option, Some, None, option_map, List, [], ◌∷◌, ◌++◌, length, decimal, flat_map}
use Rattle.byteorder.specs.Endian.{little_bytes}
use Rattle.ccfs_base.specs.Contents.{resized, written}
use Rattle.ccfs_base.specs.declared.records.Rec.{Rec}
use Rattle.ccfs_base.specs.declared.records.Rec.TheVariants as recs
use Rattle.ccfs_base.specs.Records.{all_recorded}
use Rattle.inode_table.specs.declared.attrs.Attr.{Attr}
use Rattle.inode_table.specs.declared.attrs.Kind.{Kind}
use Rattle.inode_table.specs.declared.attrs.Kind.TheVariants as kinds
use Rattle.inode_table.specs.Attrs.{attr_bytes}
use Rattle.inode_table.specs.Records.{record_offset}
use Rattle.flat_dirs.specs.declared.slot.Slot.{Slot}
use Rattle.flat_dirs.specs.Slot.{slot_bytes}
use Rattle.tree_model.specs.declared.rows.Body.{Body}
use Rattle.tree_model.specs.declared.rows.Body.TheVariants.{Dir, File}
use Rattle.tree_model.specs.declared.rows.Row.{Row}
use Rattle.tree_model.specs.declared.rows.Update.{Update}
use Rattle.tree_model.specs.declared.rows.Update.TheVariants.{Make, Write, Resize, Remove, Move, Release}
use Rattle.tree_model.specs.Rows.{Rows}
use Rattle.std.specs.FinMap.{get}
use Rattle.image_model.specs.Fields.{block_place, inode_bits, slot_offset}
use Rattle.image_model.specs.Volumes.{Volume, Table}
use Rattle.image_model.specs.Carrying.{inode_in}

-- ---- changes

pub data Change : Type 0 where
  -- an unused inode gets a record without length and changes, and a slot in this directory under this name
  New : (inode parent : ℕ) (name : List ℕ) (kind : Kind) → Change
  -- an inode isn't used any more
  Drop : (inode : ℕ) → Change
  -- a directory's count of changes grows by 1
  Touch : (inode : ℕ) → Change
  -- an inode stands in this directory under this name now
  Enter : (inode parent : ℕ) (name : List ℕ) → Change
  -- a file has these bytes now
  Fill : (inode : ℕ) (bytes : List ℕ) → Change

-- the inode that a change is of
abbrev pub inode_of : Change → ℕ
inode_of (New inode parent name kind) = inode
inode_of (Drop inode) = inode
inode_of (Touch inode) = inode
inode_of (Enter inode parent name) = inode
inode_of (Fill inode bytes) = inode

-- ---- on bytes

-- the attributes of a new inode, and a slot
abbrev pub new_attr : Kind → Attr
new_attr kind = record { kind = kind; length = 0; changes = 0 }

abbrev pub slot_of : ℕ → List ℕ → Slot
slot_of parent name = record { parent = parent; name = name }

-- the record that marks an inode as used, or as free
abbrev pub marks : ℕ → Bool → Rec
marks inode on = recs.Bit (block_place inode_bits + inode / 8) (inode % 8) on

-- the record that raises the count of free inodes, modulo 2^64
abbrev pub frees : ℕ → Rec
frees by = recs.Add 16 by

-- the records of a change, in a volume of so many inodes. They act on the first 24 bytes of the inode's record, on its slot, on its
-- bit and on the count of free inodes
abbrev pub records_of : ℕ → Change → List Rec
records_of inodes (New inode parent name kind) =
    recs.Range (record_offset inode) (attr_bytes (new_attr kind))
    ∷ recs.Range (slot_offset inodes inode) (slot_bytes (slot_of parent name))
    ∷ marks inode true ∷ frees (2 ^ 64 - 1) ∷ []
records_of inodes (Drop inode) = marks inode false ∷ frees 1 ∷ []
records_of inodes (Touch inode) = recs.Add (record_offset inode + 16) 1 ∷ []
records_of inodes (Enter inode parent name) = recs.Range (slot_offset inodes inode) (slot_bytes (slot_of parent name)) ∷ []
records_of inodes (Fill inode bytes) = recs.Range (record_offset inode + 8) (little_bytes 8 (length bytes)) ∷ []

-- the records of changes, in their order
abbrev pub all_records : ℕ → List Change → List Rec
all_records inodes changes = flat_map (records_of inodes) changes

-- a volume with records put on its bytes
abbrev pub with_records : Volume → List Rec → Volume
with_records v records = record v { bytes = all_recorded v.bytes records }

-- a volume after changes
abbrev pub changed : Volume → List Change → Volume
changed v changes = with_records v (all_records v.inodes changes)

-- ---- on a table and on files

-- the function with another value at one place
abbrev pub with_at : {A : Type 0} → ℕ → A → (ℕ → A) → ℕ → A
with_at {A} place value f x = cond (x == place) value (f x)

-- attributes with the count of changes 1 higher modulo 2^64, and with another length
abbrev pub touched : Attr → Attr
touched a = record a { changes = (a.changes + 1) % 2 ^ 64 }

abbrev pub with_length : ℕ → Attr → Attr
with_length long a = record a { length = long }

-- the table after a change
abbrev pub table_after : Table → Change → Table
table_after t (New inode parent name kind) = record t {
  is_used = with_at inode true t.is_used;
  attr = with_at inode (Some (new_attr kind)) t.attr;
  slot = with_at inode (Some (slot_of parent name)) t.slot;
}
table_after t (Drop inode) = record t { is_used = with_at inode false t.is_used }
table_after t (Touch inode) = record t { attr = with_at inode (option_map touched (t.attr inode)) t.attr }
table_after t (Enter inode parent name) = record t { slot = with_at inode (Some (slot_of parent name)) t.slot }
table_after t (Fill inode bytes) = record t { attr = with_at inode (option_map (with_length (length bytes)) (t.attr inode)) t.attr }

-- the bytes of the files after a change: a new file has none
abbrev pub files_after : (ℕ → List ℕ) → Change → ℕ → List ℕ
files_after files (New inode parent name kind) = with_at inode [] files
files_after files (Drop inode) = files
files_after files (Touch inode) = files
files_after files (Enter inode parent name) = files
files_after files (Fill inode bytes) = with_at inode bytes files

-- after changes, in their order
abbrev pub files_changed : (ℕ → List ℕ) → List Change → ℕ → List ℕ
files_changed files [] = files
files_changed files (c ∷ more) = files_changed (files_after files c) more

-- ---- the changes of updates

-- the name of a file in the orphan directory: `#` and its inode. Of inode 12 it is `#12`
abbrev pub orphan_name : ℕ → List ℕ
orphan_name inode = 35 ∷ decimal inode

-- what becomes of a file that loses its entry: it stands in the orphan directory where it stays, else its inode is given up
abbrev pub leaving : ℕ → Bool → Change
leaving inode true = Enter inode 1 (orphan_name inode)
leaving inode false = Drop inode

abbrev pub leaving_replaced : List ℕ → Option ℕ → Bool → List Change
leaving_replaced inodes None stays = []
leaving_replaced inodes (Some x) stays = leaving (inode_in inodes x) stays ∷ []

-- the kind of a new inode
abbrev pub kind_made : Bool → Kind
kind_made true = kinds.Dir
kind_made false = kinds.File

-- the bytes of a row: of a directory and of none there are none
abbrev pub bytes_of_body : Body → List ℕ
bytes_of_body (Dir changes) = []
bytes_of_body (File bytes) = bytes

abbrev pub bytes_at : Option Row → List ℕ
bytes_at None = []
bytes_at (Some r) = bytes_of_body r.body

-- the changes that an update of a tree makes, where `inodes` has the inode of each serial: making `/a/f` takes a new inode and touches
-- that of `/a`; a move touches both directories, one behind the other where they are one
abbrev pub changes_of : List ℕ → Rows → Update → List Change
changes_of inodes t (Make dir name id is_dir) =
    New (inode_in inodes id) (inode_in inodes dir) name (kind_made is_dir) ∷ Touch (inode_in inodes dir) ∷ []
changes_of inodes t (Write id off bytes) = Fill (inode_in inodes id) (written off bytes (bytes_at (get t id))) ∷ []
changes_of inodes t (Resize id len) = Fill (inode_in inodes id) (resized len (bytes_at (get t id))) ∷ []
changes_of inodes t (Remove dir name id stays) = leaving (inode_in inodes id) stays ∷ Touch (inode_in inodes dir) ∷ []
changes_of inodes t (Move dir name to_dir to_name id is_dir replaced stays) =
    leaving_replaced inodes replaced stays
    ++ (Enter (inode_in inodes id) (inode_in inodes to_dir) to_name ∷ Touch (inode_in inodes dir) ∷ Touch (inode_in inodes to_dir) ∷ [])
changes_of inodes t (Release id) = Drop (inode_in inodes id) ∷ []
