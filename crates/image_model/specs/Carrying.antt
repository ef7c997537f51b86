-- Which trees a volume carries: its tree, under any serials.
use Rattle.std.specs.Prelude.{◌≡◌, ℕ, ◌-◌, ◌*◌, ◌<◌, true, Option, Some, None, List, length, slice_index}
use Rattle.std.specs.FinMap.{get}
use Rattle.block_layout.specs.Sizes.{block_size, volume_start}
use Rattle.tree_model.specs.declared.rows.Row.{Row}
use Rattle.tree_model.specs.Rows.{Rows}
use Rattle.image_model.specs.declared.check.Check.TheVariants as checks
use Rattle.image_model.specs.Volumes.{Volume, table_of, free_blocks, free_inodes, clear_blocks, clear_inodes}
use Rattle.image_model.specs.Files.{is_file_at, length_at, file_bytes}
use Rattle.image_model.specs.Checks.{all_built, failure, first_failure}
use Rattle.image_model.specs.Trees.{row_at, with_parent}

-- the inode of a serial in a list of inodes: of the serial 1 in 0 5 2 it is 5
abbrev pub inode_in : List ℕ → ℕ → ℕ
inode_in inodes s = slice_index inodes s

-- A tree by serials is a tree by inodes, where the list has the inode of each serial that has a row. It may have places for
-- serials that have none.
pub record IsRenamed (inodes : List ℕ) (t : Rows) (row : ℕ → Option Row) : Type 0 where
  -- each row of the one is a row of the other, with its parent's inode for the parent
  pub each : (s : ℕ) (r : Row) → get t s ≡ Some r → (s < length inodes) × (row (inode_in inodes s) ≡ Some (with_parent (inode_in inodes) r))
  -- and the other way round
  pub all : (i : ℕ) (r : Row) → row i ≡ Some r → (s : ℕ) × ((q : Row) × (get t s ≡ Some q) × (inode_in inodes s ≡ i))
  -- no two rows have one inode
  pub once : (s u : ℕ) (r q : Row) → get t s ≡ Some r → get t u ≡ Some q → inode_in inodes s ≡ inode_in inodes u → s ≡ u

-- A volume carries a tree, the row of each serial having the inode at that place: no check fails, but for that of the batch
-- number, and the volume's tree is this one under these serials.
pub record Carries (v : Volume) (t : Rows) (inodes : List ℕ) : Type 0 where
  pub sound : first_failure None v ≡ None
  pub renamed : IsRenamed inodes t (row_at (table_of v) (file_bytes v))

-- ---- the two halves

-- all bytes of the image's blocks from the volume's start on are there: of 512 blocks 252 times 4,096
abbrev pub IsWhole : Volume → Type 0
IsWhole v = length v.bytes ≡ block_size * (v.blocks - volume_start)

-- The metadata, with contents for the files, carries a tree. It is the half that a file system's commands change; the blocks
-- of the files, and which are free, aren't told.
pub record CarriesRows (v : Volume) (files : ℕ → List ℕ) (t : Rows) (inodes : List ℕ) : Type 0 where
  pub formatted : failure all_built None v checks.Format ≡ None
  pub roots : failure all_built None v checks.Root ≡ None
  pub records : failure all_built None v checks.Record ≡ None
  pub slots : failure all_built None v checks.Slot ≡ None
  pub twins : failure all_built None v checks.Twin ≡ None
  pub rings : failure all_built None v checks.Ring ≡ None
  pub counted : free_inodes v ≡ clear_inodes v
  -- the length told for each file is that of its contents
  pub sized : (inode : ℕ) → is_file_at (table_of v) inode ≡ true → length_at (table_of v) inode ≡ length (files inode)
  pub renamed : IsRenamed inodes t (row_at (table_of v) files)

-- The blocks hold these contents, each block for one use, and those that aren't used are marked and counted as free. It is
-- the half that a commit changes.
pub record HoldsFiles (v : Volume) (files : ℕ → List ℕ) : Type 0 where
  pub contents : (inode : ℕ) → is_file_at (table_of v) inode ≡ true → files inode ≡ file_bytes v inode
  pub named_once : failure all_built None v checks.Pointer ≡ None
  pub marked : failure all_built None v checks.Bits ≡ None
  pub counted : free_blocks v ≡ clear_blocks v
