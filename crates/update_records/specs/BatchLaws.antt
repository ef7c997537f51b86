-- What the records of a batch carry from one tree to another.
use Rattle.std.specs.Prelude.{ℕ, List}
use Rattle.tree_model.specs.declared.rows.Update.{Update}
use Rattle.tree_model.specs.Rows.{Rows, IsTree}
use Rattle.image_model.specs.Volumes.{Volume, table_of}
use Rattle.image_model.specs.Carrying.{CarriesRows}
use Rattle.image_model.specs.Changes.{changed, files_changed}
use Rattle.image_model.specs.ChangeLaws.{IsSized, AreBesideSame, AreOrphansNamed}
use Rattle.update_records.specs.Batches.{tree_after, changes_of_all, AllFit, AllHaveInodes, AllNamed}

-- A volume of good sizes whose metadata carries a tree, with names of their own for its orphans. So is a fresh volume, of the root
-- alone under the inodes 0.
pub record Stands (v : Volume) (files : ℕ → List ℕ) (t : Rows) (inodes : List ℕ) : Type 0 where
  pub sized : IsSized v
  pub rows : CarriesRows v files t inodes
  pub orphans : AreOrphansNamed (table_of v)
  pub tree : IsTree t

-- a volume after updates of the tree that it carries: the records of all of them are put on it, in their order
abbrev pub updated : Volume → List ℕ → Rows → List Update → Volume
updated v inodes t us = changed v (changes_of_all inodes t us)

-- the bytes of the files after updates
abbrev pub files_updated : (ℕ → List ℕ) → List ℕ → Rows → List Update → ℕ → List ℕ
files_updated files inodes t us = files_changed files (changes_of_all inodes t us)

-- The records of a batch of updates, put on any volume that carries the tree before them, give one that carries the tree after all
-- of them, and leave what isn't inodes'. With `/a` and then `/a/f` made in the inodes 5 and 7, a volume of the root alone gets one
-- that carries both. The inodes of new rows stand in `inodes` from the start: free_serials_may_change puts them there.
abbrev pub BatchesAreCarried : Type 0
BatchesAreCarried = (v : Volume) (files : ℕ → List ℕ) (t : Rows) (inodes : List ℕ) (us : List Update)
    → Stands v files t inodes → AllFit t us → AllNamed us → AllHaveInodes v.inodes inodes t us
    → Stands (updated v inodes t us) (files_updated files inodes t us) (tree_after t us) inodes
    × AreBesideSame v (updated v inodes t us)
