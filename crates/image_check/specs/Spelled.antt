-- The tree that the tables of a volume spell, where the inodes of its rows are listed in order of their serials.
use Rattle.std.specs.Prelude.{◌≡◌, ℕ, ◌≤◌, ◌<◌, ◌^◌, Option, Some, None, option_map, List, [], length, slice_get}
use Rattle.std.specs.FinMap.{get}
use Rattle.inode_table.specs.declared.attrs.Attr.{Attr}
use Rattle.flat_dirs.specs.declared.slot.Slot.{Slot}
use Rattle.tree_model.specs.declared.rows.Row.{Row}
use Rattle.tree_model.specs.declared.rows.Update.{Update}
use Rattle.tree_model.specs.declared.rows.Update.TheVariants.{Make}
use Rattle.tree_model.specs.Rows.{Rows, place_of, IsTree}
use Rattle.tree_model.specs.Updates.{on_body, recounted}
use Rattle.image_model.specs.Files.{is_dir_attr}
use Rattle.image_model.specs.Trees.{body_given}
use Rattle.image_model.specs.Carrying.{inode_in}
use Rattle.image_check.specs.declared.table.Table.{Table}
use Rattle.image_check.specs.Tables.{seen}

-- ---- lists of inodes

-- Inodes below a bound, none of them twice: 0 5 2 below 8.
pub record AreDistinct (bound : ℕ) (inodes : List ℕ) : Type 0 where
  pub within : (s : ℕ) → s < length inodes → inode_in inodes s < bound
  pub once : (s u : ℕ) → s < length inodes → u < length inodes → inode_in inodes s ≡ inode_in inodes u → s ≡ u
  pub few : length inodes ≤ bound

-- numbers by inode tell the place of each inode that is listed: 0 7 2 7 7 1 those of 0 5 2
abbrev pub AreSerials : List ℕ → List ℕ → Type 0
AreSerials inodes serials = (s : ℕ) → s < length inodes → slice_get serials (inode_in inodes s) ≡ Some s

-- ---- one row

-- the update that makes the row of a serial, by the slot and the attributes of its inode and the serials by inode. Of the slot
-- of `f` in directory 5, which has the serial 1, and a file's attributes it is the one that makes the file `f` in 1
abbrev pub making : List ℕ → ℕ → Option Attr → Option Slot → Option Update
making serials s attr None = None
making serials s attr (Some slot) = option_map (λ dir. Make dir slot.name s (is_dir_attr attr)) (slice_get serials slot.parent)

-- the count of changes that attributes tell: without attributes 0
abbrev pub changes_told : Option Attr → ℕ
changes_told None = 0
changes_told (Some a) = a.changes

-- Where a row stands, by the slot of its inode, in a directory that is listed before it. Of 0 3 5 2 the serial 2 has the inode 5;
-- where its slot is that of `f` in directory 3, the row is the entry `f` of 1.
pub record IsPlacedBy (table : Table) (inodes : List ℕ) (t : Rows) (s : ℕ) : Type 0 where
  pub slot : Slot
  pub dir : ℕ
  pub kept : get table.slots (inode_in inodes s) ≡ Some slot
  pub before : dir < s
  pub parent : inode_in inodes dir ≡ slot.parent
  pub place : place_of t s ≡ Some (dir, slot.name)

-- What a row is, by the attributes of its inode: of a directory that was changed 7 times the same, and of any file an empty one.
pub record IsKnownBy (table : Table) (inodes : List ℕ) (t : Rows) (s : ℕ) : Type 0 where
  pub row : Row
  pub there : get t s ≡ Some row
  pub body : row.body ≡ body_given ((seen table).attr (inode_in inodes s)) []

-- ---- all rows

-- A tree has a row for each inode of a list, whose serial is its place there, and no others. Each row is where and what the tables
-- tell. Where 2 is `/b`, 3 is `/a` and 5 is `/a/f`, it is so of 0 3 5 2 and the tree of these three.
pub record IsSpelled (table : Table) (inodes : List ℕ) (t : Rows) : Type 0 where
  pub tree : IsTree t
  pub some : 0 < length inodes
  pub apart : AreDistinct table.used.count inodes
  pub few : length inodes < 2 ^ 32
  -- the first is the root, which has no slot
  pub root : get table.slots (inode_in inodes 0) ≡ None
  pub places : (s : ℕ) → 0 < s → s < length inodes → IsPlacedBy table inodes t s
  pub bodies : (s : ℕ) → s < length inodes → IsKnownBy table inodes t s
  pub none : (s : ℕ) → length inodes ≤ s → get t s ≡ None

-- ---- on the way

-- a row with 0 for its count of changes: a directory that was changed 7 times is as one that never was
abbrev pub uncounted : Option Row → Option Row
uncounted o = on_body (recounted 0) o

-- The rows of the root and of the serials below a bound are there as in t, but for their counts of changes, and no others: below 2
-- those of `/` and `/a`, where t has `/`, `/a` and `/a/f`.
pub record AreMade (t made : Rows) (bound : ℕ) : Type 0 where
  pub root : uncounted (get made 0) ≡ uncounted (get t 0)
  pub here : (s : ℕ) → s < bound → uncounted (get made s) ≡ uncounted (get t s)
  pub none : (s : ℕ) → 0 < s → bound ≤ s → uncounted (get made s) ≡ None
