-- What the records of a batch carry from one cut of a history to the next.
use Rattle.std.specs.Prelude.{ℕ, suc, List, map}
use Rattle.tree_model.specs.declared.rows.Update.{Update}
use Rattle.tree_model.specs.Rows.{Rows}
use Rattle.tree_cuts.specs.Calls.{Sizes, Call}
use Rattle.tree_cuts.specs.Runs.{IsRun, tree_at_cut, batch_after}
use Rattle.image_model.specs.Volumes.{Volume}
use Rattle.image_model.specs.ChangeLaws.{AreBesideSame}
use Rattle.update_records.specs.Batches.{AllHaveInodes, AllNamed}
use Rattle.update_records.specs.BatchLaws.{Stands, updated, files_updated}

-- the updates of a batch of a history, without their streams
abbrev pub batch_updates : Sizes → Rows → List Call → ℕ → List Update
batch_updates sizes t calls k = map (λ e. e.1) (batch_after sizes t calls k)

-- A volume that carries the tree of a cut of a run carries that of the next cut, once the records of the batch between them are
-- put on it: the commits of a history go from cut to cut.
abbrev pub CutsAreCarried : Type 0
CutsAreCarried = (sizes : Sizes) (t : Rows) (calls : List Call) (k : ℕ) (v : Volume) (files : ℕ → List ℕ) (inodes : List ℕ)
    → IsRun t calls → Stands v files (tree_at_cut sizes t calls k) inodes
    → AllNamed (batch_updates sizes t calls k)
    → AllHaveInodes v.inodes inodes (tree_at_cut sizes t calls k) (batch_updates sizes t calls k)
    → Stands (updated v inodes (tree_at_cut sizes t calls k) (batch_updates sizes t calls k))
    (files_updated files inodes (tree_at_cut sizes t calls k) (batch_updates sizes t calls k))
    (tree_at_cut sizes t calls (suc k)) inodes
    × AreBesideSame v (updated v inodes (tree_at_cut sizes t calls k) (batch_updates sizes t calls k))
