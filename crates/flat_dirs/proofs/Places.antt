-- The order of the index.
use Rattle.std.proofs.Common.{◌≡◌, ℕ, ◌≤◌, zero, suc, true, false, ◌==◌, List, refl, sym, ap, subst, ◌∙◌, arith}
use Rattle.std.specs.Prelude.{cond, ◌&&◌, T, nat_lt}
use Rattle.std.proofs.lemmas.Bool.Decides.{nat_tests}
use Rattle.std.specs.declared.cmp.Ordering.{Ordering}
use Rattle.std.specs.declared.cmp.Ordering.TheVariants.{Less, Equal, Greater}
use Rattle.std.specs.Ordering.{nat_cmp, ordering_then, ordering_reverse, is_eq, is_gt}
use Rattle.std.specs.Cmp.{IsTotalOrder, unsigned_tied, tied_then}
use Rattle.std.specs.Cmp.Lexicographic.{slice_cmp}
use Rattle.std.specs.Str.{bytes_eq}
use Rattle.std.specs.FinMap.{nat_cmp-IsAntisymmetric, slice_cmp-IsAntisymmetric}
use Rattle.std.proofs.lemmas.Cmp.{nat_cmp_total, nat_list_cmp_total, then_total, on_total, tied_itself}
use Rattle.std.proofs.lemmas.Map.Keys.{le_from_not_gt}
use Rattle.std.proofs.lemmas.Map.Text.{is_eq-slice_cmp}
use Rattle.flat_dirs.specs.Index.{SlotKey, place_cmp}

-- a directory and a name in it
abbrev pub spot_cmp : ℕ × List ℕ → ℕ × List ℕ → Ordering
spot_cmp x y = ordering_then (nat_cmp x.0 y.0) (slice_cmp nat_cmp x.1 y.1)

pub spot_cmp_total : IsTotalOrder spot_cmp
spot_cmp_total = then_total (on_total (λ t. t.0) nat_cmp_total) (on_total (λ t. t.1) nat_list_cmp_total)

pub place_cmp_total : IsTotalOrder place_cmp
place_cmp_total = then_total (then_total (on_total (λ t. t.0) nat_cmp_total) (on_total (λ t. t.1) nat_list_cmp_total)) (on_total (λ t. t.2) nat_cmp_total)

-- two answers in a row are a tie where both are
pub both_tie : (a b : Ordering) → ordering_then a b ≡ Equal → (a ≡ Equal) × (b ≡ Equal)
both_tie Less b e = cc
both_tie Equal b e = (refl, e)
both_tie Greater b e = cc

pub spot_parts : (x y : ℕ × List ℕ) → spot_cmp x y ≡ Equal → (x.0 ≡ y.0) × (x.1 ≡ y.1)
spot_parts x y e =
    let both = both_tie (nat_cmp x.0 y.0) (slice_cmp nat_cmp x.1 y.1) e in
    (nat_cmp-IsAntisymmetric x.0 y.0 both.0, slice_cmp-IsAntisymmetric nat_cmp-IsAntisymmetric x.1 y.1 both.1)

-- whether two places tie, by their parts
pub place_test : (x y : SlotKey) → is_eq (place_cmp x y) ≡ ((x.0 == y.0) && bytes_eq x.1 y.1) && (x.2 == y.2)
place_test x y =
    sym (tied_then (spot_cmp (x.0, x.1) (y.0, y.1)) (nat_cmp x.2 y.2))
    ∙ ap (λ b. b && is_eq (nat_cmp x.2 y.2)) (sym (tied_then (nat_cmp x.0 y.0) (slice_cmp nat_cmp x.1 y.1)))
    ∙ (λ i. ((unsigned_tied x.0 y.0 i) && (is_eq-slice_cmp x.1 y.1 i)) && unsigned_tied x.2 y.2 i)

-- ---- places of one directory and name
pub same_spot : (p : ℕ) (n : List ℕ) (i j : ℕ) → place_cmp (p, n, i) (p, n, j) ≡ nat_cmp i j
same_spot p n i j = ap (λ o. ordering_then o (nat_cmp i j)) (tied_itself spot_cmp_total (p, n))

pub first_not_above : (a b : Ordering) → is_gt (ordering_then a b) ≡ false → is_gt a ≡ false
first_not_above Less b h = refl
first_not_above Equal b h = refl
first_not_above Greater b h = h

-- what isn't above in either direction ties
not_apart : (a b : Ordering) → a ≡ ordering_reverse b → is_gt a ≡ false → is_gt b ≡ false → a ≡ Equal
not_apart a Less e f g = absurd (subst T (sym (ap is_gt e) ∙ f) tt)
not_apart a Equal e f g = e
not_apart a Greater e f g = absurd (subst T g tt)

-- what stands between two places of one directory and name is of that directory and name
pub between : (p : ℕ) (n : List ℕ) (j : ℕ) (k : SlotKey) → is_gt (place_cmp (p, n, 0) k) ≡ false → is_gt (place_cmp k (p, n, j)) ≡ false → (p ≡ k.0) × (n ≡ k.1)
between p n j k f g =
    let low = first_not_above (spot_cmp (p, n) (k.0, k.1)) _ f in
    let high = first_not_above (spot_cmp (k.0, k.1) (p, n)) _ g in
    spot_parts (p, n) (k.0, k.1) (not_apart _ _ (spot_cmp_total.antisymm (p, n) (k.0, k.1)) low high)

pub never_below : (j : ℕ) → is_gt (nat_cmp 0 j) ≡ false
never_below zero = refl
never_below (suc j) = let t : nat_lt 0 (suc j) ≡ true = grind (arith, nat_tests) in ap (λ z. is_gt (cond z Less (cond (0 == suc j) Equal Greater))) t

pub lowest : (p : ℕ) (n : List ℕ) (j : ℕ) → is_gt (place_cmp (p, n, 0) (p, n, j)) ≡ false
lowest p n j = ap is_gt (same_spot p n 0 j) ∙ never_below j

pub inodes_in_order : (p : ℕ) (n : List ℕ) (i j : ℕ) → is_gt (place_cmp (p, n, i) (p, n, j)) ≡ false → i ≤ j
inodes_in_order p n i j h = le_from_not_gt i j (sym (ap is_gt (same_spot p n i j)) ∙ h)
