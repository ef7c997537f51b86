-- What holds of volumes that pass all checks.
use Rattle.std.specs.Prelude.{◌≡◌, ℕ, ◌<◌, true, is_some, nat_lt, Option, None, List, [], length}
use Rattle.std.specs.FinMap.{get}
use Rattle.tree_model.specs.Rows.{IsTree}
use Rattle.image_model.specs.Volumes.{Volume, Table, table_of}
use Rattle.image_model.specs.Files.{is_file_at, file_bytes}
use Rattle.image_model.specs.Checks.{first_failure, first_failure_for_now}
use Rattle.image_model.specs.Trees.{has_row, inodes_of, gone, tree_of}
use Rattle.image_model.specs.Carrying.{inode_in, Carries}

-- the tree of a sound volume is a tree, and the volume carries it: the row of each serial has the inode at that place
abbrev pub SoundVolumesCarry : Type 0
SoundVolumesCarry = (v : Volume) → first_failure None v ≡ None → IsTree (tree_of v) × Carries v (tree_of v) (inodes_of (table_of v) (file_bytes v))

-- a volume that is sound beside an open batch is sound where none is open: where the number is 3 and that of the last open batch
-- is 3, it needn't be looked at
abbrev pub SoundBesideBatches : Type 0
SoundBesideBatches = (last : Option ℕ) (v : Volume) → first_failure last v ≡ None → first_failure None v ≡ None

-- A list has each inode that has a row, at one place, and no other: of a table where 0, 2 and 5 have rows it may be 0 5 2.
pub record ListsRows (t : Table) (inodes : List ℕ) : Type 0 where
  -- the root is the first
  pub root : (0 < length inodes) × (inode_in inodes 0 ≡ 0)
  pub each : (s : ℕ) → s < length inodes → has_row t (inode_in inodes s) ≡ true
  pub all : (inode : ℕ) → has_row t inode ≡ true → (s : ℕ) × ((s < length inodes) × (inode_in inodes s ≡ inode))
  pub once : (s u : ℕ) → s < length inodes → u < length inodes → inode_in inodes s ≡ inode_in inodes u → s ≡ u

-- the inodes of a sound volume in order of their serials are those that have a row, each once, and the serials that have a row
-- in its tree are the places of that list
abbrev pub InodesAreListed : Type 0
InodesAreListed = (v : Volume) → first_failure None v ≡ None
    → ListsRows (table_of v) (inodes_of (table_of v) (file_bytes v))
    × ((s : ℕ) → is_some (get (tree_of v) s) ≡ nat_lt s (length (inodes_of (table_of v) (file_bytes v))))

-- until files have bytes and may stay open without a name, no file of a sound volume is gone, and each is empty
abbrev pub BareVolumesAreBare : Type 0
BareVolumesAreBare = (v : Volume) → first_failure_for_now None v ≡ None
    → ((files : ℕ → List ℕ) → gone (table_of v) files ≡ []) × ((inode : ℕ) → is_file_at (table_of v) inode ≡ true → file_bytes v inode ≡ [])
