-- What a batch takes of the journal, and the law that its weight is enough for it.
use Rattle.std.specs.Prelude.{ℕ, ◌+◌, ◌-◌, ◌*◌, ◌/◌, ◌<◌, ◌≤◌, cond, nat_lt, Option, None, Some, List, [], ◌∷◌, length}
use Rattle.std.specs.List.{sum_by}
use Rattle.ccfs_base.specs.Limits.{pages, rounded, blocks}
use Rattle.file_bodies.specs.declared.ops.BodyOp.{BodyOp}
use Rattle.file_bodies.specs.declared.ops.BodyOp.TheVariants as ops
use Rattle.file_bodies.specs.declared.batches.Sealed.{Sealed}
use Rattle.file_bodies.specs.Files.{Files, bytes_of, file_of, left_of, acted}
use Rattle.tree_model.specs.declared.rows.Entry.{Entry}
use Rattle.tree_model.specs.Rows.{Rows}
use Rattle.tree_model.specs.Weights.{lower}
use Rattle.tree_cuts.specs.Calls.{Sizes}
use Rattle.history_model.specs.Histories.{start, seal_count, tree_at}
use Rattle.image_model.specs.Volumes.{Volume, table_of}
use Rattle.image_model.specs.Files.{is_file_at, file_bytes}
use Rattle.carried_volumes.specs.Carried.{Carried}
use Rattle.front_laws.specs.Kept.{IsKept}
use Rattle.front_laws.specs.Batches.{batch_at}
use Rattle.front_laws.specs.Laws.{record_size}

-- the files of a volume: each used inode that is a file's has its bytes
abbrev pub files_of : Volume → Files
files_of v inode = cond (is_file_at (table_of v) inode) (Some (file_bytes v inode)) None

-- The first place at which an operation puts bytes in a file of a length, zeros of a gap included, and the one behind the last. Ten
-- bytes put at 8 in a file of 5 stand from 5 to 18. What shrinks or drops a file puts none.
abbrev pub places_put : ℕ → BodyOp → ℕ × ℕ
places_put len (ops.Put inode off bytes) = (lower off len, off + length bytes)
places_put len (ops.Grow inode to) = (len, to)
places_put len (ops.Shrink inode to) = (0, 0)
places_put len (ops.Drop inode) = (0, 0)

-- the part of places that lies below the end of the last page of a file of a length: of 5 to 5,000 in a file of 5 it is 5 to 4,096
abbrev pub below_the_end : ℕ → ℕ × ℕ → ℕ × ℕ
below_the_end len places = (lower places.0 (rounded len), lower places.1 (rounded len))

-- how many pages places touch: those from 4,000 to 5,000 touch 2
abbrev pub touched : ℕ × ℕ → ℕ
touched places = cond (nat_lt places.0 places.1) (pages places.1 - places.0 / 4096) 0

-- by how much two numbers differ
abbrev pub difference : ℕ → ℕ → ℕ
difference a b = (a - b) + (b - a)

-- The bytes of the journal that an operation on a file may take: those that it puts into pages that the file has already, 12 for each
-- of these pages, and 32 for each block that the file gains or gives up. Ten bytes put at 0 in a file of 5 take 22, and in an empty
-- file 32, since its page is a new one.
abbrev pub op_size : Option (List ℕ) → BodyOp → ℕ
op_size file op =
    let len = length (bytes_of file) in
    let places = below_the_end len (places_put len op) in
    (places.1 - places.0) + 12 * touched places + 32 * difference (blocks len) (blocks (length (bytes_of (left_of op file))))

-- the same of operations, each on what the ones before it left
abbrev pub ops_size : Files → List BodyOp → ℕ
ops_size files [] = 0
ops_size files (op ∷ rest) = op_size (files (file_of op)) op + ops_size (acted files op) rest

-- The weight of a batch covers it where the files are these: it is at least 64 and what its records and its operations take.
abbrev pub IsCovered : Files → Sealed → Type 0
IsCovered files sealed = 64 + sum_by record_size sealed.recs + ops_size files sealed.ops ≤ sealed.weight

-- the weight of a batch covers it on each volume that carries the tree of the cut before it
abbrev pub BatchesAreCovered : Type 0
BatchesAreCovered = (sizes : Sizes) (t : Rows) (inodes : List ℕ) (h : List Entry) (k : ℕ) (v : Volume) → IsKept sizes t inodes h → k < seal_count sizes (start t) h
    → Carried v (tree_at sizes (start t) h k) inodes → IsCovered (files_of v) (batch_at sizes t inodes h k)
