-- Items that rise by what they have: what a search finds among them, and edits that keep them rising.
use Rattle.std.proofs.Common.{◌≡◌, ◌≢◌, ℕ, ◌+◌, ◌-◌, ◌<◌, ◌≤◌, suc, inl, inr, Bool, false, ◌&&◌, List, [], ◌∷◌, length, get_or, set, Result, Ok, Err, IfOk, IfErr, refl, sym, ap, subst, ◌∙◌, arith}
use Rattle.std.specs.declared.cmp.Ordering.{Ordering}
use Rattle.std.specs.declared.cmp.Ordering.TheVariants.{Less, Equal, Greater}
use Rattle.std.specs.Cmp.{IsTotalOrder}
use Rattle.std.specs.List.{insert, list_any}
use Rattle.std.specs.List.Sorted.{IsSearchInRange, IsBinarySearchResult, IsNonDecreasingBy}
use Rattle.std.specs.Ordering.{is_eq, is_lt, ordering_index, ordering_reverse}
use Rattle.std.proofs.lemmas.Bool.{cases_Bool, cases_eq, cases_lt}
use Rattle.std.proofs.lemmas.List.{get_or-set_same, get_or-set_other, get_or_default}
use Rattle.std.proofs.Math.ListN.{length-set}
use Rattle.std.proofs.lemmas.List.Edits.{length-insert, get_or-insert_below, get_or-insert_at, get_or-insert_above}
use Rattle.std.proofs.lemmas.List.Folds.{list_any_at}
use Rattle.std.proofs.lemmas.List.Sorted.{searchable_from_sorted}
use Rattle.cross_dep.specs.Order.{RisesBy, StandsAt, GoesAt}

module _ {X P : Type 0} (cmp : P → P → Ordering) (o : IsTotalOrder cmp) (place : X → P) where
  flipped : (x y : P) (r : Ordering) → cmp x y ≡ r → cmp y x ≡ ordering_reverse r
  flipped x y r e = o.antisymm y x ∙ ap ordering_reverse e

  -- a search asks that the comparisons with one rise
  comparisons_rise : (xs : List X) (p : P) → RisesBy cmp place xs → IsNonDecreasingBy (λ y. ordering_index (cmp (place y) p)) xs
  comparisons_rise xs p rises =
      searchable_from_sorted o place xs p
      (λ (k : ℕ) (d : X) from to. ap is_lt (flipped (place (get_or xs k d)) (place (get_or xs (k + 1) d)) Less (rises k (k + 1) d (omega arith) to)))

  -- what a search finds
  pub searched : (xs : List X) (x : X) (r : Result ℕ ℕ) → RisesBy cmp place xs → IsSearchInRange r (length xs)
      → IsBinarySearchResult (λ y. cmp (place y) (place x)) xs r
      → record { found : IfOk r (StandsAt cmp place xs x); absent : IfErr r (GoesAt cmp place xs x) }
  searched xs x (Ok at) rises inside equal = record { found = record { inside = inside; same = equal }; absent = tt }
  searched xs x (Err at) rises inside parted = record {
    found = tt;
    absent = record {
      inside = inside;
      lower = λ (i : ℕ) (d : X) (l : i < at). (parted (comparisons_rise xs (place x) rises)).0 i d (omega arith) l;
      higher = λ (i : ℕ) (d : X) (from : at ≤ i) (to : i < length xs).
          flipped (place (get_or xs i d)) (place x) Greater ((parted (comparisons_rise xs (place x) rises)).1 i d from to);
    };
  }

  -- ---- edits

  -- an item was replaced by one that has the same
  pub rises_set : (xs : List X) (at : ℕ) (y : X) → at < length xs → ((d : X) → place y ≡ place (get_or xs at d)) → RisesBy cmp place xs
      → RisesBy cmp place (set xs at y)
  rises_set xs at y inside same rises i j d l to =
      let long : length (set xs at y) ≡ length xs = length-set xs at y in
      let as_before : (k : ℕ) → place (get_or (set xs at y) k d) ≡ place (get_or xs k d)
      = λ k. elim (cases_eq k at) [
        | inl e ↦ subst (λ z. place (get_or (set xs at y) z d) ≡ place (get_or xs z d)) (sym e) (ap place (get_or-set_same xs at y d inside) ∙ same d)
        | inr n ↦ ap place (get_or-set_other xs at k y d n)
      ] in
      ap (λ z. cmp z (place (get_or (set xs at y) j d))) (as_before i) ∙ ap (λ z. cmp (place (get_or xs i d)) z) (as_before j) ∙ rises i j d l (omega arith)

  -- an item was put where it goes
  pub rises_insert : (xs : List X) (x : X) (at : ℕ) → GoesAt cmp place xs x at → RisesBy cmp place xs → RisesBy cmp place (insert xs at x)
  rises_insert xs x at goes rises i j d l to = elim (cases_lt j at) [
    | inl j_below ↦ alike i j (below i (omega (arith, long))) (below j j_below) (rises i j d l (omega (arith, long)))
    | inr j_from ↦ elim (cases_eq j at) [
      | inl j_here ↦ alike i j (below i (omega (arith, long))) (here j j_here) (goes.lower i d (omega (arith, long)))
      | inr j_apart ↦ elim (cases_lt i at) [
        | inl i_below ↦ alike i j (below i i_below) (above j (omega (arith, long))) (rises i (j - 1) d (omega (arith, long)) (omega (arith, long)))
        | inr i_from ↦ elim (cases_eq i at) [
          | inl i_here ↦ alike i j (here i i_here) (above j (omega (arith, long))) (goes.higher (j - 1) d (omega (arith, long)) (omega (arith, long)))
          | inr i_apart ↦ alike i j (above i (omega (arith, long))) (above j (omega (arith, long))) (rises (i - 1) (j - 1) d (omega (arith, long)) (omega (arith, long)))
        ]
      ]
    ]
  ]
    where
      long : length (insert xs at x) ≡ length xs + 1
      long = length-insert xs at x goes.inside

      alike : (i j : ℕ) {a b : P} → place (get_or (insert xs at x) i d) ≡ a → place (get_or (insert xs at x) j d) ≡ b → cmp a b ≡ Less
          → cmp (place (get_or (insert xs at x) i d)) (place (get_or (insert xs at x) j d)) ≡ Less
      alike i j {a} {b} e f less = ap (λ z. cmp z (place (get_or (insert xs at x) j d))) e ∙ ap (λ z. cmp a z) f ∙ less

      below : (k : ℕ) → k < at → place (get_or (insert xs at x) k d) ≡ place (get_or xs k d)
      below k l = ap place (get_or-insert_below xs at x d k l goes.inside)

      here : (k : ℕ) → k ≡ at → place (get_or (insert xs at x) k d) ≡ place x
      here k e = subst (λ z. place (get_or (insert xs at x) z d) ≡ place x) (sym e) (ap place (get_or-insert_at xs at x d goes.inside))

      above : (k : ℕ) → at < k → place (get_or (insert xs at x) k d) ≡ place (get_or xs (k - 1) d)
      above k l =
          subst (λ z. place (get_or (insert xs at x) z d) ≡ place (get_or xs (k - 1) d)) {x = k - 1 + 1} (omega arith)
          (ap place (get_or-insert_above xs at x d (k - 1) (omega arith) goes.inside))

  -- ---- tests

  none_passes : (p : X → Bool) (xs : List X) → ((i : ℕ) (d : X) → i < length xs → p (get_or xs i d) ≡ false) → list_any p xs ≡ false
  none_passes p [] none = refl
  none_passes p (x ∷ xs) none = rw (none 0 x (omega arith)) (none_passes p xs (λ (i : ℕ) (d : X) (l : i < length xs). none (suc i) d (omega arith)))

  -- only an item that has the same as x passes a test of this kind, and where one stands, it alone decides
  pub one_decides : (p q : X → Bool) (xs : List X) (x : X) (at : ℕ) (d : X) → ((y : X) → p y ≡ (is_eq (cmp (place x) (place y)) && q y))
      → RisesBy cmp place xs → StandsAt cmp place xs x at → list_any p xs ≡ q (get_or xs at d)
  one_decides p q xs x at d is rises stands = elim (cases_Bool (q (get_or xs at d))) [
    | inl passes ↦ list_any_at p xs at d stands.inside (own ∙ passes) ∙ sym passes
    | inr fails ↦ none_passes p xs
        (λ (i : ℕ) (e : X) (l : i < length xs). elim (cases_eq i at) [
          | inl same ↦ subst (λ z. p (get_or xs z e) ≡ false) (sym same) (ap p (get_or_default xs at e d stands.inside) ∙ own ∙ fails)
          | inr apart ↦ is (get_or xs i e) ∙ ap (λ z. is_eq z && q (get_or xs i e)) (as_stood i e) ∙ ap (λ z. z && q (get_or xs i e)) (other i e l apart)
        ]) ∙ sym fails
  ]
    where
      own : p (get_or xs at d) ≡ q (get_or xs at d)
      own = is (get_or xs at d) ∙ ap (λ z. is_eq z && q (get_or xs at d)) (flipped (place (get_or xs at d)) (place x) Equal (stands.same d))

      as_stood : (i : ℕ) (e : X) → cmp (place x) (place (get_or xs i e)) ≡ cmp (place (get_or xs at e)) (place (get_or xs i e))
      as_stood i e = sym (o.congr (place (get_or xs at e)) (place x) (place (get_or xs i e)) (stands.same e))

      other : (i : ℕ) (e : X) → i < length xs → i ≢ at → is_eq (cmp (place (get_or xs at e)) (place (get_or xs i e))) ≡ false
      other i e l apart = elim (cases_lt i at) [
        | inl below ↦ ap is_eq (flipped (place (get_or xs i e)) (place (get_or xs at e)) Less (rises i at e below stands.inside))
        | inr above ↦ ap is_eq (rises at i e (omega arith) l)
      ]

  -- where none has the same as x, none passes
  pub none_decides : (p q : X → Bool) (xs : List X) (x : X) (at : ℕ) → ((y : X) → p y ≡ (is_eq (cmp (place x) (place y)) && q y))
      → GoesAt cmp place xs x at → list_any p xs ≡ false
  none_decides p q xs x at is goes = none_passes p xs
      (λ (i : ℕ) (d : X) (l : i < length xs). is (get_or xs i d) ∙ elim (cases_lt i at) [
        | inl below ↦ ap (λ z. is_eq z && q (get_or xs i d)) (flipped (place (get_or xs i d)) (place x) Less (goes.lower i d below))
        | inr above ↦ ap (λ z. is_eq z && q (get_or xs i d)) (goes.higher i d above l)
      ])
