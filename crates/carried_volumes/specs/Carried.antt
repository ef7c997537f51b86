-- What the volume of an image carries until files have bytes and may stay open without a name, and the inodes of its rows.
use Rattle.std.specs.Prelude.{◌≡◌, ◌≢◌, ℕ, ◌-◌, ◌<◌, ◌≤◌, false, Some, List, [], length}
use Rattle.std.specs.FinMap.{get, len}
use Rattle.tree_model.specs.declared.rows.Row.{Row}
use Rattle.tree_model.specs.Rows.{Rows}
use Rattle.image_model.specs.Volumes.{Volume, table_of, is_block_used, free_blocks, data_blocks}
use Rattle.image_model.specs.Carrying.{inode_in, CarriesRows}
use Rattle.image_model.specs.ChangeLaws.{IsSized, AreOrphansNamed}
use Rattle.carried_volumes.specs.Plain.{IsPlain}

-- the contents of files that are all empty
abbrev pub no_bytes : ℕ → List ℕ
no_bytes inode = []

-- A volume carries a tree, the row of each serial having the inode at that place of the list. Its data blocks are all free. The batch
-- number isn't looked at.
pub record Carried (v : Volume) (t : Rows) (inodes : List ℕ) : Type 0 where
  pub sized : IsSized v
  pub rows : CarriesRows v no_bytes t inodes
  pub orphans : AreOrphansNamed (table_of v)
  pub plain : IsPlain t
  pub unused : (item : ℕ) → item < data_blocks v → is_block_used v item ≡ false
  pub counted : free_blocks v ≡ data_blocks v

-- The rows of a tree have inodes of an image of so many, the row of each serial that at its place in the list: the root 0, the others
-- such from 2 on, and no two the same. With 32 inodes and the list 0 5 2 the root, 1 and 2 do. One inode is the orphan
-- directory's, so there are fewer rows than inodes.
pub record HaveInodes (count : ℕ) (inodes : List ℕ) (t : Rows) : Type 0 where
  pub listed : (s : ℕ) (r : Row) → get t s ≡ Some r → s < length inodes
  pub there : (s : ℕ) (r : Row) → get t s ≡ Some r → inode_in inodes s < count
  pub root : inode_in inodes 0 ≡ 0
  pub high : (s : ℕ) (r : Row) → s ≢ 0 → get t s ≡ Some r → 2 ≤ inode_in inodes s
  pub apart : (s u : ℕ) (r q : Row) → get t s ≡ Some r → get t u ≡ Some q → inode_in inodes s ≡ inode_in inodes u → s ≡ u
  pub few : len t ≤ count - 1
