-- The operations of built updates take nothing of the journal where all files are empty.
use Rattle.std.proofs.Common.{◌≡◌, ℕ, List, [], ◌∷◌, refl, ap, ◌∙◌, arith}
use Rattle.std.specs.Prelude.{true, false, cond, ◌==◌, Option, None, Some, take, flat_map}
use Rattle.std.specs.List.{AllByRecursion, range_with_len}
use Rattle.ccfs_base.specs.Limits.{pages}
use Rattle.file_bodies.specs.declared.ops.BodyOp.{BodyOp}
use Rattle.file_bodies.specs.declared.ops.BodyOp.TheVariants as ops
use Rattle.file_bodies.specs.Files.{Files, bytes_of, grown, file_of, left_of, acted}
use Rattle.tree_model.specs.declared.rows.Update.{Update}
use Rattle.tree_model.specs.declared.rows.Update.TheVariants.{Make, Write, Resize, Remove, Move, Release}
use Rattle.tree_model.specs.Rows.{Rows}
use Rattle.tree_cuts.specs.Calls.{Charged}
use Rattle.image_model.specs.declared.pointer.Pointer.TheVariants.{Page}
use Rattle.image_model.specs.Volumes.{Volume, table_of, block_bytes}
use Rattle.image_model.specs.Files.{is_file_at, length_at, named, file_bytes}
use Rattle.carried_volumes.specs.Carried.{Carried}
use Rattle.update_records.specs.Built.{is_built}
use Rattle.update_records.specs.Operations.{ops_of}
use Rattle.front_laws.specs.Batches.{ops_of_all}
use Rattle.front_laws.specs.Covers.{op_size, ops_size, files_of}
use Rattle.front_laws.proofs.Entering.{Holds}
use Rattle.front_laws.proofs.Standing.{all_append}

-- ---- the files of a volume

pub no_file_bytes : (v : Volume) (inode : ℕ) → length_at (table_of v) inode ≡ 0 → file_bytes v inode ≡ []
no_file_bytes v inode e = ap (λ (n : ℕ). take n (flat_map (λ page. block_bytes v (named v (Page inode page))) (range_with_len 0 (pages n)))) e

abbrev pub AreEmpty : Files → Type 0
AreEmpty files = (inode : ℕ) → bytes_of (files inode) ≡ []

pub files_empty : (v : Volume) (t : Rows) (inodes : List ℕ) → Carried v t inodes → AreEmpty (files_of v)
files_empty v t inodes carried inode =
    elim (is_file_at (table_of v) inode) as (λ b. is_file_at (table_of v) inode ≡ b → bytes_of (cond b (Some (file_bytes v inode)) None) ≡ []) [
      | true ↦ λ p. no_file_bytes v inode (carried.rows.sized inode p)
      | false ↦ λ p. refl
    ] refl

-- ---- an operation

-- what makes a file without bytes, or drops one
abbrev IsBareOp : BodyOp → Type 0
IsBareOp (ops.Put inode off bytes) = ⊥
IsBareOp (ops.Grow inode len) = len ≡ 0
IsBareOp (ops.Shrink inode len) = ⊥
IsBareOp (ops.Drop inode) = Unit {0}

grow_none : (inode : ℕ) (file : Option (List ℕ)) → bytes_of file ≡ [] → op_size file (ops.Grow inode 0) ≡ 0
grow_none inode None e = refl
grow_none inode (Some bytes) e = ap (λ (z : List ℕ). op_size (Some z) (ops.Grow inode 0)) e

drop_none : (inode : ℕ) (file : Option (List ℕ)) → bytes_of file ≡ [] → op_size file (ops.Drop inode) ≡ 0
drop_none inode None e = refl
drop_none inode (Some bytes) e = ap (λ (z : List ℕ). op_size (Some z) (ops.Drop inode)) e

takes_none : (op : BodyOp) (file : Option (List ℕ)) → IsBareOp op → bytes_of file ≡ [] → op_size file op ≡ 0
takes_none (ops.Put inode off bytes) file is e = absurd is
takes_none (ops.Grow inode len) file is e = ap (λ (n : ℕ). op_size file (ops.Grow inode n)) is ∙ grow_none inode file e
takes_none (ops.Shrink inode len) file is e = absurd is
takes_none (ops.Drop inode) file is e = drop_none inode file e

leaves_none : (op : BodyOp) (file : Option (List ℕ)) → IsBareOp op → bytes_of file ≡ [] → bytes_of (left_of op file) ≡ []
leaves_none (ops.Put inode off bytes) file is e = absurd is
leaves_none (ops.Grow inode len) file is e = λ i. grown (is i) (e i)
leaves_none (ops.Shrink inode len) file is e = absurd is
leaves_none (ops.Drop inode) file is e = refl

acted_empty : (files : Files) (op : BodyOp) → AreEmpty files → IsBareOp op → AreEmpty (acted files op)
acted_empty files op a is inode = elim (inode == file_of op) as (λ b. bytes_of (cond b (left_of op (files inode)) (files inode)) ≡ []) [
  | true ↦ leaves_none op (files inode) is (a inode)
  | false ↦ a inode
]

-- ---- several

pub all_take_none : (files : Files) (l : List BodyOp) → AreEmpty files → AllByRecursion IsBareOp l → ops_size files l ≡ 0
all_take_none files [] a all = refl
all_take_none files (op ∷ l) a all =
    let first = takes_none op (files (file_of op)) all.0 (a (file_of op)) in
    let rest = all_take_none (acted files op) l (acted_empty files op a all.0) all.1 in omega (arith, first, rest)

module _ (inodes : List ℕ) where
  bare_ops : (u : Update) → is_built u ≡ true → AllByRecursion IsBareOp (ops_of inodes u)
  bare_ops (Make dir name id true) built = tt
  bare_ops (Make dir name id false) built = (refl, tt)
  bare_ops (Write id off bytes) built = absurd (let z : false ≡ true = built in cc)
  bare_ops (Resize id len) built = absurd (let z : false ≡ true = built in cc)
  bare_ops (Remove dir name id true) built = tt
  bare_ops (Remove dir name id false) built = (tt, tt)
  bare_ops (Move dir name to_dir to_name id is_dir None stays) built = tt
  bare_ops (Move dir name to_dir to_name id is_dir (Some x) true) built = tt
  bare_ops (Move dir name to_dir to_name id is_dir (Some x) false) built = (tt, tt)
  bare_ops (Release id) built = absurd (let z : false ≡ true = built in cc)

  pub all_bare_ops : (us : List (ℕ × Charged)) → AllByRecursion (Holds (λ u. is_built u ≡ true)) us → AllByRecursion IsBareOp (ops_of_all inodes us)
  all_bare_ops [] a = tt
  all_bare_ops (e ∷ us) a = all_append IsBareOp (ops_of inodes e.1.0) (ops_of_all inodes us) (bare_ops e.1.0 a.0) (all_bare_ops us a.1)
