-- The first place of a directory and a name.
use Rattle.std.proofs.Common.{◌≡◌, ℕ, true, false, List, [], ◌∷◌, refl, subst}
use Rattle.std.specs.declared.option.Option.TheVariants.{Some}
use Rattle.std.specs.declared.ops.Bound.TheVariants.{Included, Unbounded}
use Rattle.std.specs.Option.{IfSome}
use Rattle.std.specs.List.{slice_get}
use Rattle.std.specs.Ordering.{is_gt}
use Rattle.std.specs.BTreeSet.{BTreeSet, contains, IsKeyRangeOf, IsKeyInRange}
use Rattle.flat_dirs.specs.Index.{SlotKey, place_cmp}
use Rattle.flat_dirs.specs.Slots.{IsLeast}
use Rattle.flat_dirs.proofs.Places.{between, lowest, inodes_in_order}

-- the places from the first possible one of a directory and a name on
abbrev pub IsRest : BTreeSet SlotKey → ℕ → List ℕ → List SlotKey → Type 0
IsRest at p n r = IsKeyRangeOf place_cmp (Included (p, n, 0)) Unbounded at r

-- where nothing follows, there is none
pub least_of_none : (at : BTreeSet SlotKey) (p : ℕ) (n : List ℕ) (r : List SlotKey) → IsRest at p n r → r ≡ [] → (j : ℕ) → contains place_cmp at (p, n, j) ≡ false
least_of_none at p n r h e j = h.5 e (p, n, j) (lowest p n j, tt)

-- the first that follows is in the index, and no place of the directory and the name is below it
first_in : (at : BTreeSet SlotKey) (p : ℕ) (n : List ℕ) (r rest : List SlotKey) (k : SlotKey) → IsRest at p n r → r ≡ k ∷ rest → IsKeyInRange place_cmp (Included (p, n, 0)) Unbounded at k
first_in at p n r rest k h e = subst (λ z. IfSome (slice_get z 0) (IsKeyInRange place_cmp (Included (p, n, 0)) Unbounded at)) e h.1

none_before : (at : BTreeSet SlotKey) (p : ℕ) (n : List ℕ) (r rest : List SlotKey) (k : SlotKey) → IsRest at p n r → r ≡ k ∷ rest
    → (j : ℕ) → contains place_cmp at (p, n, j) ≡ true → is_gt (place_cmp k (p, n, j)) ≡ false
none_before at p n r rest k h e j t = subst (λ z. IfSome (slice_get z 0) (λ k. is_gt (place_cmp k (p, n, j)) ≡ false)) e (h.2 (p, n, j) (lowest p n j, tt) t)

-- where it is of the directory and the name, it is the least
pub least_of_same : (at : BTreeSet SlotKey) (p : ℕ) (n : List ℕ) (r rest : List SlotKey) (k : SlotKey) → IsRest at p n r → r ≡ k ∷ rest → k.0 ≡ p → k.1 ≡ n
    → IsLeast (λ i. contains place_cmp at (p, n, i)) (Some k.2)
least_of_same at p n r rest k h e dir name =
    let here : contains place_cmp at k ≡ true = (first_in at p n r rest k h e).1 in (
      subst (λ z. contains place_cmp at z ≡ true) (λ i. (dir i, name i, k.2)) here,
      λ j t. inodes_in_order p n k.2 j (subst (λ z. is_gt (place_cmp z (p, n, j)) ≡ false) (λ i. (dir i, name i, k.2)) (none_before at p n r rest k h e j t)),
    )

-- where it isn't, there is none
pub least_of_other : (at : BTreeSet SlotKey) (p : ℕ) (n : List ℕ) (r rest : List SlotKey) (k : SlotKey) → IsRest at p n r → r ≡ k ∷ rest → (p ≡ k.0 → n ≡ k.1 → ⊥)
    → (j : ℕ) → contains place_cmp at (p, n, j) ≡ false
least_of_other at p n r rest k h e apart j =
    elim (contains place_cmp at (p, n, j)) as (λ b. contains place_cmp at (p, n, j) ≡ b → b ≡ false) [
      | true ↦ λ t.
          let same = between p n j k (first_in at p n r rest k h e).0.0 (none_before at p n r rest k h e j t) in
          absurd (apart same.0 same.1)
      | false ↦ λ _. refl
    ] refl
