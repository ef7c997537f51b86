-- In a preorder each inode but the first stands behind its parent.
use Rattle.std.proofs.Common.{◌≡◌, ℕ, zero, suc, ◌<◌, List, [], ◌∷◌, ◌++◌, length, slice_index, refl, sym, ap, ◌∙◌, ◌⊎◌, inl, inr, arith}
use Rattle.std.specs.Prelude.{Option, Some, flat_map}
use Rattle.image_model.proofs.PreorderLists.{In, in_left, in_flattened, first_place, stands_at}
use Rattle.image_check.specs.Listed.{listed}

-- d stands in a list, and y behind it
abbrev pub Before : List ℕ → ℕ → ℕ → Type 0
Before [] d y = ⊥
Before (x ∷ xs) d y = ((x ≡ d) × In xs y) ⊎ Before xs d y

before_left : (xs ys : List ℕ) (d y : ℕ) → Before xs d y → Before (xs ++ ys) d y
before_left [] ys d y h = absurd h
before_left (x ∷ xs) ys d y (inl w) = inl (w.0, in_left xs ys y w.1)
before_left (x ∷ xs) ys d y (inr h) = inr (before_left xs ys d y h)

before_right : (xs ys : List ℕ) (d y : ℕ) → Before ys d y → Before (xs ++ ys) d y
before_right [] ys d y h = h
before_right (x ∷ xs) ys d y h = inr (before_right xs ys d y h)

before_flat : (g : ℕ → List ℕ) (es : List ℕ) (e d y : ℕ) → In es e → Before (g e) d y → Before (flat_map g es) d y
before_flat g [] e d y h b = absurd h
before_flat g (a ∷ more) e d y (inl same) b = before_left (g a) (flat_map g more) d y (let q : g e ≡ g a = sym (ap g same) in rw (sym q) b)
before_flat g (a ∷ more) e d y (inr h) b = before_right (g a) (flat_map g more) d y (before_flat g more e d y h b)

module _ (below : ℕ → List ℕ) (f : ℕ → Option ℕ) (child : (x y : ℕ) → In (below x) y → f y ≡ Some x) where
  pub led : (l x y : ℕ) → In (listed below l x) y → (y ≡ x) ⊎ ((d : ℕ) × ((f y ≡ Some d) × Before (listed below l x) d y))
  led zero x y (inl e) = inl (sym e)
  led zero x y (inr h) = absurd h
  led (suc l) x y (inl e) = inl (sym e)
  led (suc l) x y (inr h) =
      let w = in_flattened (listed below l) (below x) y h in
      elim (led l w.0 y w.1.1) [
        | inl same ↦ inr (x, (ap f same ∙ child x w.0 w.1.0, inl (refl, h)))
        | inr p ↦ inr (p.0, (p.1.0, inr (before_flat (listed below l) (below x) w.0 p.0 y w.1.0 p.1.1)))
      ]

-- Two places of a list, one behind the other.
pub record ArePlaces (xs : List ℕ) (d y : ℕ) : Type 0 where
  pub first : ℕ
  pub second : ℕ
  pub ordered : first < second
  pub within : second < length xs
  pub has_first : slice_index xs first ≡ d
  pub has_second : slice_index xs second ≡ y

pub places_of : (xs : List ℕ) (d y : ℕ) → Before xs d y → ArePlaces xs d y
places_of [] d y h = absurd h
places_of (x ∷ xs) d y (inl w) =
    let at = stands_at xs y w.1 in
    let below : first_place xs y < length xs = at.0 in
    record { first = 0; second = suc (first_place xs y); ordered = omega arith; within = omega arith; has_first = w.0; has_second = at.1 }
places_of (x ∷ xs) d y (inr h) =
    let p = places_of xs d y h in
    let order = p.ordered in
    let inside = p.within in
    record { first = suc p.first; second = suc p.second; ordered = omega arith; within = omega arith; has_first = p.has_first; has_second = p.has_second }
