-- What the operations of a batch leave of the files of a volume.
use Rattle.std.specs.Prelude.{◌≡◌, ℕ, ◌<◌, List}
use Rattle.file_bodies.specs.Files.{all_acted}
use Rattle.tree_model.specs.declared.rows.Entry.{Entry}
use Rattle.tree_model.specs.Rows.{Rows}
use Rattle.tree_cuts.specs.Calls.{Sizes}
use Rattle.history_model.specs.Histories.{start, seal_count, tree_at}
use Rattle.image_model.specs.Volumes.{Volume}
use Rattle.image_model.specs.Changes.{with_records}
use Rattle.carried_volumes.specs.Carried.{Carried}
use Rattle.front_laws.specs.Kept.{IsKept}
use Rattle.front_laws.specs.Batches.{batch_at}
use Rattle.front_laws.specs.Covers.{files_of}

-- The operations of a batch, done to the files of any volume that carries the tree of the cut before it, leave just the files of the
-- volume with its records: a file that was made is there and has no bytes, one that was removed or replaced is gone, and the others
-- are as they were.
abbrev pub OperationsCarryOn : Type 0
OperationsCarryOn = (sizes : Sizes) (t : Rows) (inodes : List ℕ) (h : List Entry) (k : ℕ) (v : Volume) → IsKept sizes t inodes h → k < seal_count sizes (start t) h
    → v.inodes ≡ sizes.inodes → Carried v (tree_at sizes (start t) h k) inodes
    → (inode : ℕ) → all_acted (files_of v) (batch_at sizes t inodes h k).ops inode ≡ files_of (with_records v (batch_at sizes t inodes h k).recs) inode
