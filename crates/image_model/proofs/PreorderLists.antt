-- Lists in which nothing stands twice, and the places of their elements.
use Rattle.std.proofs.Common.{◌≡◌, ℕ, zero, suc, ◌+◌, ◌<◌, ◌≤◌, List, [], ◌∷◌, ◌++◌, length, slice_index, refl, sym, ap, ◌∙◌, ◌⊎◌, inl, inr, arith}
use Rattle.std.specs.Prelude.{Bool, true, false, cond, not, ◌==◌, filter, flat_map}
use Rattle.std.specs.List.{range_with_len, position_or_len}
use Rattle.std.proofs.lemmas.Bool.{cases_eq, eq-eqb, ne_eqb}

-- x stands in a list
abbrev pub In : {X : Type 0} → List X → X → Type 0
In [] x = ⊥
In (y ∷ ys) x = (y ≡ x) ⊎ In ys x

-- nothing stands twice in it
abbrev pub Once : {X : Type 0} → List X → Type 0
Once [] = Unit {0}
Once (x ∷ xs) = (In xs x → ⊥) × Once xs

module _ {X : Type 0} where
  pub in_left : (xs ys : List X) (x : X) → In xs x → In (xs ++ ys) x
  in_left [] ys x h = absurd h
  in_left (z ∷ zs) ys x (inl e) = inl e
  in_left (z ∷ zs) ys x (inr h) = inr (in_left zs ys x h)

  pub in_right : (xs ys : List X) (x : X) → In ys x → In (xs ++ ys) x
  in_right [] ys x h = h
  in_right (z ∷ zs) ys x h = inr (in_right zs ys x h)

  pub in_either : (xs ys : List X) (x : X) → In (xs ++ ys) x → In xs x ⊎ In ys x
  in_either [] ys x h = inr h
  in_either (z ∷ zs) ys x (inl e) = inl (inl e)
  in_either (z ∷ zs) ys x (inr h) = elim (in_either zs ys x h) [ inl l ↦ inl (inr l) | inr r ↦ inr r ]

  pub once_both : (xs ys : List X) → Once xs → Once ys → ((x : X) → In xs x → In ys x → ⊥) → Once (xs ++ ys)
  once_both [] ys one two apart = two
  once_both (z ∷ zs) ys one two apart = (
    λ h. elim (in_either zs ys z h) [ inl l ↦ one.0 l | inr r ↦ apart z (inl refl) r ],
    once_both zs ys one.1 two (λ x l r. apart x (inr l) r),
  )

  -- ---- those that pass a test

  in_cond : (b : Bool) (y x : X) (xs : List X) → In (cond b (y ∷ xs) xs) x → ((b ≡ true) × (y ≡ x)) ⊎ In xs x
  in_cond true y x xs (inl e) = inl (refl, e)
  in_cond true y x xs (inr h) = inr h
  in_cond false y x xs h = inr h

  pub in_filtered : (p : X → Bool) (xs : List X) (x : X) → In (filter p xs) x → (p x ≡ true) × In xs x
  in_filtered p [] x h = absurd h
  in_filtered p (y ∷ ys) x h = elim (in_cond (p y) y x (filter p ys) h) [
    | inl w ↦ (sym (ap p w.1) ∙ w.0, inl w.1)
    | inr r ↦ (let ih = in_filtered p ys x r in (ih.0, inr ih.1))
  ]

  cond_head : (b : Bool) (y x : X) (xs : List X) → b ≡ true → y ≡ x → In (cond b (y ∷ xs) xs) x
  cond_head true y x xs p e = inl e
  cond_head false y x xs p e = absurd (cc)

  cond_tail : (b : Bool) (y x : X) (xs : List X) → In xs x → In (cond b (y ∷ xs) xs) x
  cond_tail true y x xs h = inr h
  cond_tail false y x xs h = h

  pub in_filter : (p : X → Bool) (xs : List X) (x : X) → p x ≡ true → In xs x → In (filter p xs) x
  in_filter p [] x passes h = absurd h
  in_filter p (y ∷ ys) x passes (inl e) = cond_head (p y) y x (filter p ys) (ap p e ∙ passes) e
  in_filter p (y ∷ ys) x passes (inr h) = cond_tail (p y) y x (filter p ys) (in_filter p ys x passes h)

  cond_once : (b : Bool) (y : X) (xs : List X) → (In xs y → ⊥) → Once xs → Once (cond b (y ∷ xs) xs)
  cond_once true y xs new one = (new, one)
  cond_once false y xs new one = one

  pub once_filter : (p : X → Bool) (xs : List X) → Once xs → Once (filter p xs)
  once_filter p [] one = tt
  once_filter p (y ∷ ys) one = cond_once (p y) y (filter p ys) (λ h. one.0 (in_filtered p ys y h).1) (once_filter p ys one.1)

-- ---- lists one behind the other

module _ {X Y : Type 0} (f : X → List Y) where
  pub in_flat : (es : List X) (e : X) (y : Y) → In es e → In (f e) y → In (flat_map f es) y
  in_flat [] e y h k = absurd h
  in_flat (a ∷ more) e y (inl same) k = in_left (f a) (flat_map f more) y (let q : f e ≡ f a = sym (ap f same) in rw (sym q) k)
  in_flat (a ∷ more) e y (inr h) k = in_right (f a) (flat_map f more) y (in_flat more e y h k)

  pub in_flattened : (es : List X) (y : Y) → In (flat_map f es) y → (e : X) × (In es e × In (f e) y)
  in_flattened [] y h = absurd h
  in_flattened (a ∷ more) y h = elim (in_either (f a) (flat_map f more) y h) [
    | inl l ↦ (a, (inl refl, l))
    | inr r ↦ (let w = in_flattened more y r in (w.0, (inr w.1.0, w.1.1)))
  ]

  pub once_flat : (es : List X) → Once es → ((e : X) → In es e → Once (f e)) → ((a b : X) (y : Y) → In es a → In es b → In (f a) y → In (f b) y → a ≡ b)
      → Once (flat_map f es)
  once_flat [] one each apart = tt
  once_flat (a ∷ more) one each apart = once_both (f a) (flat_map f more) (each a (inl refl))
      (once_flat more one.1 (λ e h. each e (inr h)) (λ x z y h k p q. apart x z y (inr h) (inr k) p q))
      (λ y p q. let w = in_flattened more y q in
      let same : w.0 ≡ a = apart w.0 a y (inr w.1.0) (inl refl) w.1.1 p in
      one.0 (rw (sym same) w.1.0))

-- ---- numbers in a row

pub in_range : (a n x : ℕ) → a ≤ x → x < a + n → In (range_with_len a n) x
in_range a zero x low high = absurd (omega arith)
in_range a (suc n) x low high = elim (cases_eq a x) [ inl e ↦ inl e | inr ne ↦ inr (in_range (a + 1) n x (omega arith) (omega arith)) ]

pub in_ranged : (a n x : ℕ) → In (range_with_len a n) x → (a ≤ x) × (x < a + n)
in_ranged a zero x h = absurd h
in_ranged a (suc n) x (inl e) = (omega arith, omega arith)
in_ranged a (suc n) x (inr h) =
    let ih = in_ranged (a + 1) n x h in
    let low = ih.0 in
    let high = ih.1 in
    (omega arith, omega arith)

pub once_range : (a n : ℕ) → Once (range_with_len a n)
once_range a zero = tt
once_range a (suc n) = (λ h. let low = (in_ranged (a + 1) n a h).0 in omega arith, once_range (a + 1) n)

-- ---- places

pub in_at : (xs : List ℕ) (k : ℕ) → k < length xs → In xs (slice_index xs k)
in_at [] k h = absurd (omega arith)
in_at (x ∷ xs) zero h = inl refl
in_at (x ∷ xs) (suc k) h = inr (in_at xs k (omega arith))

-- the first place of x
abbrev pub first_place : List ℕ → ℕ → ℕ
first_place xs x = position_or_len (λ other. other == x) xs

place_here : (y x : ℕ) (xs : List ℕ) → y ≡ x → first_place (y ∷ xs) x ≡ 0
place_here y x xs e = ap (λ b. cond (not b) (1 + first_place xs x) 0) (eq-eqb y x e)

place_later : (y x : ℕ) (xs : List ℕ) → (y ≡ x → ⊥) → first_place (y ∷ xs) x ≡ suc (first_place xs x)
place_later y x xs ne = ap (λ b. cond (not b) (1 + first_place xs x) 0) (ne_eqb y x ne) ∙ omega arith

-- what stands in a list stands at its first place
pub stands_at : (xs : List ℕ) (x : ℕ) → In xs x → (first_place xs x < length xs) × (slice_index xs (first_place xs x) ≡ x)
stands_at [] x h = absurd h
stands_at (y ∷ ys) x h = elim (cases_eq y x) [
  | inl e ↦ (let p : first_place (y ∷ ys) x ≡ 0 = place_here y x ys e in (omega arith, ap (slice_index (y ∷ ys)) p ∙ e))
  | inr ne ↦ (
      let ih = stands_at ys x (elim h [ inl e ↦ absurd (ne e) | inr r ↦ r ]) in
      let low = ih.0 in
      let p : first_place (y ∷ ys) x ≡ suc (first_place ys x) = place_later y x ys ne in
      (omega arith, ap (slice_index (y ∷ ys)) p ∙ ih.1))
]

-- where nothing stands twice, each place is the first of what stands there
pub first_at : (xs : List ℕ) (k : ℕ) → Once xs → k < length xs → first_place xs (slice_index xs k) ≡ k
first_at [] k one h = absurd (omega arith)
first_at (x ∷ xs) zero one h = place_here x x xs refl
first_at (x ∷ xs) (suc k) one h =
    let ih : first_place xs (slice_index xs k) ≡ k = first_at xs k one.1 (omega arith) in
    place_later x (slice_index xs k) xs (λ e. one.0 (rw e (in_at xs k (omega arith)))) ∙ ap (λ n. suc n) ih
