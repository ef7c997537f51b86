-- Lists of inodes: one for each stream, each in memory of its own, and the numbers in them.
use Rattle.std.proofs.Common.{◌≡◌, ◌≢◌, ◌⊎◌, inl, inr, ℕ, zero, suc, ◌<◌, List, [], ◌∷◌, ◌++◌, length, set, get_or, refl, sym, ap, subst, ◌∙◌, arith, Vec, vec_items, vec_capacity}
use Rattle.std.specs.Prelude.{true, false, ◌||◌, ◌==◌}
use Rattle.std.proofs.lemmas.Bool.{eqb-true, eq-eqb, cases_eq, or_cases, or_left, or_right, or_parts}
use Rattle.std.proofs.lemmas.List.{map-set, get_or-map, get_or-set_same, get_or-set_other, set-get_or}
use Rattle.std.proofs.lemmas.List.Folds.{list_any_at}
use Rattle.front_laws.specs.Inodes.{has}
use Rattle.front_core.specs.Free.{list_at, lists_in, places_in, AreBelow}
use Rattle.front_core.proofs.Given.{has_append, in_and_out}

-- ---- numbers in lists

-- what stands at a place is in the list
pub has_at : (xs : List ℕ) (k d : ℕ) → k < length xs → has (get_or xs k d) xs ≡ true
has_at xs k d l = list_any_at (λ j. j == get_or xs k d) xs k d l (eq-eqb _ _ refl)

-- and what is in the list stands at a place
pub place_of_one : (i : ℕ) (xs : List ℕ) → has i xs ≡ true → (k : ℕ) × (k < length xs) × (get_or xs k 0 ≡ i)
place_of_one i [] p = absurd (cc)
place_of_one i (x ∷ xs) p = elim (or_cases (x == i) (has i xs) p) [
  | inl q ↦ (0, omega arith, eqb-true x i q)
  | inr q ↦ (let r = place_of_one i xs q in (suc r.0, omega (arith, r.1), r.2))
]

-- a number in one more is in those before or is the last
module _ (i : ℕ) (xs : List ℕ) (x : ℕ) where
  pub has_last : has i (xs ++ x ∷ []) ≡ true → (has i xs ≡ true) ⊎ (x ≡ i)
  has_last p = elim (or_cases (has i xs) ((x == i) || false) (sym (has_append i xs (x ∷ [])) ∙ p)) [
    | inl q ↦ inl q
    | inr q ↦ inr (elim (or_cases (x == i) false q) [ inl r ↦ eqb-true x i r | inr r ↦ absurd (cc) ])
  ]

  pub has_none_last : has i (xs ++ x ∷ []) ≡ false → (has i xs ≡ false) × (x ≢ i)
  has_none_last p =
      let q = or_parts (has i xs) ((x == i) || false) (sym (has_append i xs (x ∷ [])) ∙ p) in
      (q.0, λ e. in_and_out (x == i) (eq-eqb x i e) (or_parts (x == i) false q.1).0)

  pub has_more : has i xs ≡ true → has i (xs ++ x ∷ []) ≡ true
  has_more p = has_append i xs (x ∷ []) ∙ or_left (has i xs) _ p

  pub has_the_last : x ≡ i → has i (xs ++ x ∷ []) ≡ true
  has_the_last e = has_append i xs (x ∷ []) ∙ or_right (has i xs) _ (or_left (x == i) false (eq-eqb x i e))

-- ---- lists in memory

pub length-lists : {Z : Type 0} (given : List (Vec ℕ Z)) → length (lists_in given) ≡ length given
length-lists [] = refl
length-lists (list ∷ more) = ap suc (length-lists more)

pub length-places : {Z : Type 0} (given : List (Vec ℕ Z)) → length (places_in given) ≡ length given
length-places [] = refl
length-places (list ∷ more) = ap suc (length-places more)

pub list_read : {Z : Type 0} (given : List (Vec ℕ Z)) (at : ℕ) (d : Vec ℕ Z) → at < length given → list_at (lists_in given) at ≡ vec_items (get_or given at d)
list_read given at d l = get_or-map _ given at d [] l

pub places_read : {Z : Type 0} (given : List (Vec ℕ Z)) (at : ℕ) (d : Vec ℕ Z) → at < length given → get_or (places_in given) at 0 ≡ vec_capacity (get_or given at d)
places_read given at d l = get_or-map _ given at d 0 l

-- the lists where one was replaced
pub lists_set : {Z : Type 0} (given : List (Vec ℕ Z)) (at stream : ℕ) (v : Vec ℕ Z) (new : List ℕ) → at ≡ stream → vec_items v ≡ new
    → lists_in (set given at v) ≡ set (lists_in given) stream new
lists_set given at stream v new same e = map-set _ given at v ∙ ap (λ z. set (lists_in given) at z) e ∙ ap (λ z. set (lists_in given) z new) same

-- by one with the same inodes
pub lists_same : {Z : Type 0} (given : List (Vec ℕ Z)) (at : ℕ) (v d : Vec ℕ Z) → vec_items v ≡ vec_items (get_or given at d) → lists_in (set given at v) ≡ lists_in given
lists_same given at v d e =
    map-set _ given at v ∙ ap (λ z. set (lists_in given) at z) e ∙ sym (map-set _ given at (get_or given at d)) ∙ ap lists_in (set-get_or given at d)

-- by one with as many places
pub places_same : {Z : Type 0} (given : List (Vec ℕ Z)) (at : ℕ) (v d : Vec ℕ Z) → vec_capacity v ≡ vec_capacity (get_or given at d) → places_in (set given at v) ≡ places_in given
places_same given at v d e =
    map-set _ given at v ∙ ap (λ z. set (places_in given) at z) e ∙ sym (map-set _ given at (get_or given at d)) ∙ ap places_in (set-get_or given at d)

-- the list that was put there
pub lists_now : {Z : Type 0} (given : List (Vec ℕ Z)) (at stream : ℕ) (v : Vec ℕ Z) → at ≡ stream → at < length given
    → list_at (lists_in (set given at v)) stream ≡ vec_items v
lists_now given at stream v same l =
    let m : at < length (lists_in given) = omega (arith, length-lists given) in
    subst (λ z. list_at (lists_in (set given at v)) z ≡ vec_items v) same
    (ap (λ z. get_or z at []) (map-set _ given at v) ∙ get_or-set_same (lists_in given) at (vec_items v) [] m)

-- the places of the list that was replaced
pub places_now : {Z : Type 0} (given : List (Vec ℕ Z)) (at stream : ℕ) (v : Vec ℕ Z) → at ≡ stream → at < length given
    → get_or (places_in (set given at v)) stream 0 ≡ vec_capacity v
places_now given at stream v same l =
    let m : at < length (places_in given) = omega (arith, length-places given) in
    subst (λ z. get_or (places_in (set given at v)) z 0 ≡ vec_capacity v) same
    (ap (λ z. get_or z at 0) (map-set _ given at v) ∙ get_or-set_same (places_in given) at (vec_capacity v) 0 m)

-- no inodes, where each list is empty
pub all_none : {Z : Type 0} (given : List (Vec ℕ Z)) (at : ℕ) → ((k : ℕ) (d : Vec ℕ Z) → k < length given → vec_items (get_or given k d) ≡ []) → list_at (lists_in given) at ≡ []
all_none [] at h = refl
all_none (list ∷ more) zero h = h 0 list (omega arith)
all_none {Z} (list ∷ more) (suc at) h = all_none more at (λ (k : ℕ) (d : Vec ℕ Z) (l : k < length more). h (suc k) d (omega arith))

-- ---- inodes below the count

-- they stay so as a list is replaced by one with such alone
pub below_set : (count : ℕ) (lists : List (List ℕ)) (s : ℕ) (new : List ℕ) → s < length lists → ((i : ℕ) → has i new ≡ true → i < count) → AreBelow count lists
    → AreBelow count (set lists s new)
below_set count lists s new l h below r i p = elim (cases_eq r s) [
  | inl e ↦ h i (subst (λ (z : List ℕ). has i z ≡ true) (get_or-set_same lists s new [] l) (subst (λ z. has i (list_at (set lists s new) z) ≡ true) e p))
  | inr n ↦ below r i (subst (λ (z : List ℕ). has i z ≡ true) (get_or-set_other lists s r new [] n) p)
]
