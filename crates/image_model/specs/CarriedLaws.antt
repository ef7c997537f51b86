-- What updates leave beside the rows, and which lists of inodes carry the same tree.
use Rattle.std.specs.Prelude.{◌≡◌, ℕ, ◌<◌, Some, List, length}
use Rattle.std.specs.FinMap.{get}
use Rattle.tree_model.specs.declared.rows.Row.{Row}
use Rattle.tree_model.specs.declared.rows.Update.{Update}
use Rattle.tree_model.specs.Rows.{Rows, IsTree}
use Rattle.tree_model.specs.Updates.{Fits}
use Rattle.image_model.specs.Volumes.{Volume, table_of}
use Rattle.image_model.specs.Carrying.{inode_in, CarriesRows}
use Rattle.image_model.specs.Changes.{changed, changes_of}
use Rattle.image_model.specs.ChangeLaws.{IsSized, AreBesideSame, AreOrphansNamed, Needs}

-- The records of an update leave the volume as long as it was, and all that isn't an inode's or the count of free inodes as it was.
-- So updates can follow each other, and what the blocks hold stays.
abbrev pub UpdatesLeaveTheRest : Type 0
UpdatesLeaveTheRest = (v : Volume) (files : ℕ → List ℕ) (t : Rows) (inodes : List ℕ) (u : Update)
    → IsSized v → CarriesRows v files t inodes → AreOrphansNamed (table_of v) → IsTree t → Fits t u → Needs v inodes u
    → IsSized (changed v (changes_of inodes t u)) × AreBesideSame v (changed v (changes_of inodes t u))

-- two lists have the same inodes for the serials that have rows: 0 5 and 0 5 7 for a tree of the serials 0 and 1
abbrev pub HaveSameInodes : Rows → List ℕ → List ℕ → Type 0
HaveSameInodes t inodes others = (s : ℕ) (r : Row) → get t s ≡ Some r → (s < length others) × (inode_in others s ≡ inode_in inodes s)

-- The inodes of serials without rows are free to choose: the one that a new row is to have may be put at its place first.
abbrev pub FreeSerialsMayChange : Type 0
FreeSerialsMayChange = (v : Volume) (files : ℕ → List ℕ) (t : Rows) (inodes others : List ℕ) → CarriesRows v files t inodes → IsTree t → HaveSameInodes t inodes others → CarriesRows v files t others
