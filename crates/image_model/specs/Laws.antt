-- The laws of places, fields, checks and trees.
use Rattle.std.specs.Prelude.{◌≡◌, ◌≢◌, ◌↔◌, ℕ, ◌%◌, ◌<◌, ◌≤◌, Bool, true, cond, nat_lt, ◌==◌, MatchOption, Option, Some, None, List, [], slice_index}
use Rattle.std.specs.FinMap.{get}
use Rattle.byteorder.specs.Endian.{little_number}
use Rattle.block_layout.specs.Sizes.{good_blocks, good_inodes}
use Rattle.flat_dirs.specs.Slot.{slot_in}
use Rattle.tree_model.specs.declared.rows.Row.{Row}
use Rattle.tree_model.specs.Rows.{Rows, alone, up}
use Rattle.ccfs_base.specs.Places.{read, AreApart}
use Rattle.image_model.specs.Fields.{Field, Number, FreeBlocks, FreeInodes, Format, BlockBit, InodeBit, Kind, Length, Changes, Direct, Indirect, Slot, place, IsField, direct_pages, attr_told}
use Rattle.image_model.specs.Volumes.{Volume, Table, table_of, number, free_blocks, free_inodes, format, is_block_used, is_used, attr, slot}
use Rattle.image_model.specs.declared.pointer.Pointer.TheVariants.{Page}
use Rattle.image_model.specs.Files.{named, indirect, file_bytes, pointers}
use Rattle.image_model.specs.declared.check.Check.TheVariants as checks
use Rattle.image_model.specs.Lowest.{lowest, NoneBelow, IsLowest}
use Rattle.image_model.specs.Checks.{is_rooted, parent_at, bare, failure, first_failure, first_failure_for_now, IsBare}
use Rattle.image_model.specs.Trees.{rows_below, tree_of}
use Rattle.image_model.specs.Carrying.{Carries, IsWhole, CarriesRows, HoldsFiles}
use Rattle.image_model.specs.Fresh.{IsFresh}

-- two fields of a volume are apart, or one
abbrev pub FieldsAreApart : Type 0
FieldsAreApart = (inodes : ℕ) (f h : Field) → inodes % 32 ≡ 0 → inodes ≤ 8192 → IsField inodes f → IsField inodes h → f ≢ h → AreApart (place inodes f) (place inodes h)

-- the lowest number that passes is the lowest, and there is none exactly where none passes
abbrev pub LowestIsLowest : Type 0
LowestIsLowest = (test : ℕ → Bool) (n : ℕ) → MatchOption (lowest test n) (NoneBelow test n) (IsLowest test n)

-- each number below n has its row among the rows below n, and no other has one
abbrev pub RowsAreThose : Type 0
RowsAreThose = (row : ℕ → Option Row) (n x : ℕ) → get (rows_below row n) x ≡ cond (nat_lt x n) (row x) None

-- a fresh volume of sizes that an image may have passes all checks, where no batch is open. Its number is 0, and it stands for
-- the root alone
abbrev pub FreshVolumesStand : Type 0
FreshVolumesStand = (v : Volume) → good_blocks v.blocks ≡ true → good_inodes v.blocks v.inodes ≡ true → IsFresh v
    → (first_failure None v ≡ None) × (number v ≡ 0) × (tree_of v ≡ alone 0)

-- The fields of a volume tell all that its metadata tells.
pub record FieldsTell (v : Volume) : Type 0 where
  pub the_number : number v ≡ little_number 8 (read (place v.inodes Number) v.bytes)
  pub the_free_blocks : free_blocks v ≡ little_number 8 (read (place v.inodes FreeBlocks) v.bytes)
  pub the_free_inodes : free_inodes v ≡ little_number 8 (read (place v.inodes FreeInodes) v.bytes)
  pub the_format : format v ≡ little_number 4 (read (place v.inodes Format) v.bytes)
  pub blocks : (item : ℕ) → item < 32768 → is_block_used v item ≡ (slice_index (read (place v.inodes (BlockBit item)) v.bytes) 0 == 1)
  pub inodes : (inode : ℕ) → inode < 32768 → is_used v inode ≡ (slice_index (read (place v.inodes (InodeBit inode)) v.bytes) 0 == 1)
  pub attrs : (inode : ℕ) → attr v inode
      ≡ attr_told (read (place v.inodes (Kind inode)) v.bytes) (read (place v.inodes (Length inode)) v.bytes) (read (place v.inodes (Changes inode)) v.bytes)
  pub slots : (inode : ℕ) → slot v inode ≡ slot_in (read (place v.inodes (Slot inode)) v.bytes)
  pub pages : (inode page : ℕ) → page < direct_pages → named v (Page inode page) ≡ little_number 4 (read (place v.inodes (Direct inode page)) v.bytes)
  pub indirects : (inode : ℕ) → indirect v inode ≡ little_number 4 (read (place v.inodes (Indirect inode)) v.bytes)

-- a chain of parents that comes to the root does so within as many steps as there are inodes, so that the bound on steps is none
abbrev pub RootedIsBelowTheRoot : Type 0
RootedIsBelowTheRoot = (t : Table) (inode : ℕ) → 0 < t.inodes → (is_rooted t inode ≡ true) ↔ ((steps : ℕ) × (up (parent_at t) steps inode ≡ Some 0))

-- a volume that is whole and carries a tree does so by its metadata with some contents, and its blocks hold these; and a volume
-- of which both holds carries the tree. Whole it has to be for its files to be as long as is told
abbrev pub CarryingHasTwoHalves : Type 0
CarryingHasTwoHalves = (v : Volume) (t : Rows) (inodes : List ℕ)
    → (IsWhole v → Carries v t inodes → CarriesRows v (file_bytes v) t inodes × HoldsFiles v (file_bytes v))
    × ((files : ℕ → List ℕ) → CarriesRows v files t inodes → HoldsFiles v files → Carries v t inodes)

-- until files have bytes and may be gone, what passes is what passes without these limits, and has none of both
abbrev pub BareIsNoMore : Type 0
BareIsNoMore = (last : Option ℕ) (v : Volume) → (first_failure_for_now last v ≡ None) ↔ ((first_failure last v ≡ None) × IsBare (table_of v))

-- until files have bytes there are no pointers to be looked at, once the records are right, so that each data block has to be
-- marked as free
abbrev pub BareHasNoPointers : Type 0
BareHasNoPointers = (last : Option ℕ) (v : Volume) → failure bare last v checks.Root ≡ None → failure bare last v checks.Record ≡ None → pointers (table_of v) ≡ []
