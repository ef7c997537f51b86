-- What changes of inodes leave.
use Rattle.std.specs.Prelude.{◌≡◌, ℕ, ◌+◌, ◌-◌, ◌*◌, ◌%◌, ◌^◌, ◌<◌, ◌≤◌, true, false, Some, List, [], ◌∷◌, length}
use Rattle.block_layout.specs.Sizes.{block_size, volume_start, good_blocks, good_inodes}
use Rattle.ccfs_base.specs.Names.{is_name}
use Rattle.ccfs_base.specs.Records.{AreInside}
use Rattle.tree_model.specs.declared.rows.Update.{Update}
use Rattle.tree_model.specs.declared.rows.Update.TheVariants.{Make, Write, Resize, Remove, Move, Release}
use Rattle.tree_model.specs.Rows.{Rows, IsTree}
use Rattle.tree_model.specs.Updates.{apply, Fits}
use Rattle.image_model.specs.Fields.{direct_pages}
use Rattle.image_model.specs.Volumes.{Volume, Table, table_of, number, format, free_blocks, free_inodes, is_block_used, is_used}
use Rattle.image_model.specs.Files.{named, indirect}
use Rattle.image_model.specs.declared.pointer.Pointer.TheVariants.{Page}
use Rattle.image_model.specs.Carrying.{inode_in, CarriesRows}
use Rattle.image_model.specs.Changes.{Change, New, Drop, Touch, Enter, Fill, inode_of, records_of, table_after, changed, changes_of, files_changed, orphan_name}

-- A volume of sizes that an image may have, whole to its end.
pub record IsSized (v : Volume) : Type 0 where
  pub blocks : good_blocks v.blocks ≡ true
  pub inodes : good_inodes v.blocks v.inodes ≡ true
  pub long : length v.bytes ≡ block_size * (v.blocks - volume_start)

-- a change may be made on a table: its inode is there, and what it names is a name
abbrev pub MayBe : Table → Change → Type 0
MayBe t (New inode parent name kind) = (inode < t.inodes) × (t.is_used inode ≡ false) × (parent < 2 ^ 32) × (is_name name ≡ true)
MayBe t (Drop inode) = (inode < t.inodes) × (t.is_used inode ≡ true)
MayBe t (Touch inode) = inode < t.inodes
MayBe t (Enter inode parent name) = (inode < t.inodes) × (parent < 2 ^ 32) × (is_name name ≡ true)
MayBe t (Fill inode bytes) = (inode < t.inodes) × (length bytes < 2 ^ 64)

-- Two tables tell the same of each inode.
pub record AreSameTables (t u : Table) : Type 0 where
  pub inodes : u.inodes ≡ t.inodes
  pub used : (inode : ℕ) → inode < t.inodes → u.is_used inode ≡ t.is_used inode
  pub attrs : (inode : ℕ) → inode < t.inodes → u.attr inode ≡ t.attr inode
  pub slots : (inode : ℕ) → inode < t.inodes → u.slot inode ≡ t.slot inode

-- how many inodes are free after a change, where so many were free before it: one fewer, one more or as many. The count wraps
-- at 2^64
abbrev pub free_after : Change → ℕ → ℕ
free_after (New inode parent name kind) free = (free + (2 ^ 64 - 1)) % 2 ^ 64
free_after (Drop inode) free = (free + 1) % 2 ^ 64
free_after (Touch inode) free = free
free_after (Enter inode parent name) free = free
free_after (Fill inode bytes) free = free

-- What isn't an inode's record, slot or bit, or the count of free inodes, is as before: the number, the count of free blocks, the
-- format, the bits of data blocks and all pointers.
pub record AreBesideSame (v w : Volume) : Type 0 where
  pub blocks : w.blocks ≡ v.blocks
  pub inodes : w.inodes ≡ v.inodes
  pub long : length w.bytes ≡ length v.bytes
  pub the_number : number w ≡ number v
  pub the_format : format w ≡ format v
  pub the_free_blocks : free_blocks w ≡ free_blocks v
  pub bits : (item : ℕ) → item < 32768 → is_block_used w item ≡ is_block_used v item
  pub pages : (inode page : ℕ) → inode < v.inodes → page < direct_pages → named w (Page inode page) ≡ named v (Page inode page)
  pub indirects : (inode : ℕ) → inode < v.inodes → indirect w inode ≡ indirect v inode

-- the records of a change change the table as the change says, and nothing else
abbrev pub RecordsChangeTables : Type 0
RecordsChangeTables = (v : Volume) (c : Change) → IsSized v → MayBe (table_of v) c
    → AreSameTables (table_after (table_of v) c) (table_of (changed v (c ∷ []))) × AreBesideSame v (changed v (c ∷ []))
    × (free_inodes (changed v (c ∷ [])) ≡ free_after c (free_inodes v))

-- what a change names is a name
abbrev pub NamesAName : Change → Type 0
NamesAName (New inode parent name kind) = is_name name ≡ true
NamesAName (Drop inode) = Unit {0}
NamesAName (Touch inode) = Unit {0}
NamesAName (Enter inode parent name) = is_name name ≡ true
NamesAName (Fill inode bytes) = Unit {0}

-- the records of a change of an inode that is there lie in the bytes of the volume
abbrev pub RecordsLieInside : Type 0
RecordsLieInside = (v : Volume) (c : Change) → IsSized v → inode_of c < v.inodes → NamesAName c
    → AreInside (length v.bytes) (records_of v.inodes c)

-- each file in the orphan directory has its own name there, so that no other one gets it
abbrev pub AreOrphansNamed : Table → Type 0
AreOrphansNamed t = (inode : ℕ) → 2 ≤ inode → inode < t.inodes → t.is_used inode ≡ true → (parent : ℕ) × ((name : List ℕ) × (t.slot inode ≡ Some (record { parent = parent; name = name })) × (parent ≡ 1 → name ≡ orphan_name inode))

-- what an update needs of the volume beside the tree: names that are names, and for a new row an inode from 2 on that isn't used
abbrev pub Needs : Volume → List ℕ → Update → Type 0
Needs v inodes (Make dir name id is_dir) =
    (is_name name ≡ true) × (id < length inodes) × (2 ≤ inode_in inodes id) × (inode_in inodes id < v.inodes) × (is_used v (inode_in inodes id) ≡ false)
Needs v inodes (Write id off bytes) = Unit {0}
Needs v inodes (Resize id len) = Unit {0}
Needs v inodes (Remove dir name id stays) = Unit {0}
Needs v inodes (Move dir name to_dir to_name id is_dir replaced stays) = is_name to_name ≡ true
Needs v inodes (Release id) = Unit {0}

-- The records of an update, put on any volume whose metadata carries the tree before it, give one whose metadata carries the tree
-- after it.
abbrev pub UpdatesAreCarried : Type 0
UpdatesAreCarried = (v : Volume) (files : ℕ → List ℕ) (t : Rows) (inodes : List ℕ) (u : Update)
    → IsSized v → CarriesRows v files t inodes → AreOrphansNamed (table_of v) → IsTree t → Fits t u → Needs v inodes u
    → CarriesRows (changed v (changes_of inodes t u)) (files_changed files (changes_of inodes t u)) (apply t u) inodes
    × AreOrphansNamed (table_of (changed v (changes_of inodes t u)))
