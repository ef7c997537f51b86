-- The serials of inodes, filled in one behind the other.
use Rattle.std.proofs.Common.{◌≡◌, ℕ, ◌+◌, ◌<◌, ◌≢◌, List, length, sym, ap, ◌∙◌, inl, inr, arith}
use Rattle.std.specs.Prelude.{Some, slice_get}
use Rattle.std.proofs.Math.ListN.{set, length-set}
use Rattle.std.proofs.lemmas.Bool.{cases_eq}
use Rattle.std.proofs.lemmas.List.{get_or-set_same, get_or-set_other}
use Rattle.std.proofs.lemmas.Option.{slice_get_within, slice_get-get_or, get_or_from_slice_get}
use Rattle.image_model.specs.Carrying.{inode_in}
use Rattle.image_check.specs.Spelled.{AreDistinct}

set_here : (xs : List ℕ) (i x : ℕ) → i < length xs → slice_get (set xs i x) i ≡ Some x
set_here xs i x h =
    let long : length (set xs i x) ≡ length xs = length-set xs i x in
    slice_get-get_or (set xs i x) i 0 (omega arith) ∙ ap (λ z. Some z) (get_or-set_same xs i x 0 h)

set_other : (xs : List ℕ) (i j x y : ℕ) → j ≢ i → slice_get xs j ≡ Some y → slice_get (set xs i x) j ≡ Some y
set_other xs i j x y ne is =
    let long : length (set xs i x) ≡ length xs = length-set xs i x in
    let within : j < length xs = slice_get_within xs j y is in
    slice_get-get_or (set xs i x) j 0 (omega arith) ∙ ap (λ z. Some z) (get_or-set_other xs i j x 0 ne ∙ get_or_from_slice_get xs j y 0 is)

pub one_serial : (bound : ℕ) (inodes was now : List ℕ) (k x : ℕ) → AreDistinct bound inodes → k < length inodes → x ≡ inode_in inodes k → length was ≡ bound → now ≡ set was x k
    → ((s : ℕ) → s < k → slice_get was (inode_in inodes s) ≡ Some s) → (s : ℕ) → s < k + 1 → slice_get now (inode_in inodes s) ≡ Some s
one_serial bound inodes was now k x apart below here long written each s h =
    ap (λ l. slice_get l (inode_in inodes s)) written ∙ elim (cases_eq s k) [
      | inl same ↦
          let at : inode_in inodes s ≡ x = ap (inode_in inodes) same ∙ sym here in
          let within : inode_in inodes k < bound = apart.within k below in
          ap (slice_get (set was x k)) at ∙ set_here was x k (omega arith) ∙ ap (λ z. Some z) (sym same)
      | inr other ↦ set_other was x (inode_in inodes s) k s
          (λ e. other (apart.once s k (omega arith) below (e ∙ here))) (each s (omega arith))
    ]
