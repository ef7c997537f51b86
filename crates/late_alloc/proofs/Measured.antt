-- The lengths of files after operations.
use Rattle.std.proofs.Common.{◌≡◌, ℕ, ◌+◌, ◌≤◌, ◌==◌, Bool, true, false, cond, max, Option, List, [], ◌∷◌, length, refl, ap, ◌∙◌, arith}
use Rattle.std.proofs.lemmas.Grind.{common_steps}
use Rattle.ccfs_base.specs.Contents.{written}
use Rattle.ccfs_base.specs.Limits.{pages}
use Rattle.file_bodies.specs.declared.ops.BodyOp.{BodyOp}
use Rattle.file_bodies.specs.declared.ops.BodyOp.TheVariants as ops
use Rattle.file_bodies.specs.Files.{bytes_of, file_of, left_of, acted}
use Rattle.late_alloc.specs.Lengths.{length_by, length_in, length_after, least_pages, LengthsFollow, LeastIsLeast}

pub length-written : (off : ℕ) (new bytes : List ℕ) → length (written off new bytes) ≡ max (length bytes) (off + length new)
length-written off new bytes = grind (arith, common_steps)

-- an operation leaves as many bytes as its definition by lengths says
pub length_left : (op : BodyOp) (file : Option (List ℕ)) → length (bytes_of (left_of op file)) ≡ length_by op (length (bytes_of file))
length_left (ops.Put inode off bytes) file = length-written off bytes (bytes_of file)
length_left (ops.Grow inode to) file = grind (arith, common_steps)
length_left (ops.Shrink inode to) file = grind (arith, common_steps)
length_left (ops.Drop inode) file = refl

chosen : (own : Bool) (op : BodyOp) (file : Option (List ℕ)) → length (bytes_of (cond own (left_of op file) file)) ≡ cond own (length_by op (length (bytes_of file))) (length (bytes_of file))
chosen true op file = length_left op file
chosen false op file = refl

pub lengths_follow : LengthsFollow
lengths_follow files [] inode = refl
lengths_follow files (op ∷ rest) inode =
    lengths_follow (acted files op) rest inode
    ∙ ap (λ (z : ℕ). length_after inode z rest) (chosen (inode == file_of op) op (files inode))

pub least_is_least : LeastIsLeast
least_is_least inode len [] = (omega arith, omega arith)
least_is_least inode len (op ∷ rest) =
    let next : (least_pages inode (length_in inode op len) rest ≤ pages (length_in inode op len)) × (least_pages inode (length_in inode op len) rest ≤ pages (length_after inode (length_in inode op len) rest))
    = least_is_least inode (length_in inode op len) rest in
    (omega arith, omega (arith, next.1))
