-- What updates add to the size of a state and take from it, and what of it a cut has lost. A size may be the number of
-- blocks in use.
use Rattle.std.specs.Prelude.{◌≡◌, ℕ, ◌+◌, ◌-◌, if◌then◌else◌, nat_lt, List, [], ◌∷◌}
use Rattle.stream_cuts.specs.Streams.{one_more, no_counts}

module _ {U : Type 0} where
  -- The sum of an amount over these updates: with 1 for each it is their number.
  abbrev pub sum_over : ((ℕ × U) → ℕ) → List (ℕ × U) → ℕ
  sum_over f [] = 0
  sum_over f (e ∷ h) = f e + sum_over f h

module _ {S U : Type 0} (apply : S → U → S) where
  -- The sum of an amount over those updates that the cut loses, each at its place in the whole history, from the state t
  -- on: with (1, a) kept and (2, b) lost it is f (apply t a) b.
  abbrev pub lost_total_from : (S → U → ℕ) → (ℕ → ℕ) → (ℕ → ℕ) → S → List (ℕ × U) → ℕ
  lost_total_from f seen c t [] = 0
  lost_total_from f seen c t (e ∷ h) =
      (if nat_lt (seen e.0) (c e.0) then 0 else f t e.1) + lost_total_from f (one_more seen e.0) c (apply t e.1) h

  -- The same over a whole history.
  abbrev pub lost_total : (S → U → ℕ) → (ℕ → ℕ) → S → List (ℕ × U) → ℕ
  lost_total f c t h = lost_total_from f no_counts c t h

module _ {S U : Type 0} (apply : S → U → S) (size : S → ℕ) where
  -- How much larger u makes t: from size 3 to size 5 it gains 2, and from 5 to 3 it gains 0.
  abbrev pub gained : S → U → ℕ
  gained t u = size (apply t u) - size t

  -- How much smaller: from size 5 to size 3 it gives up 2, and from 3 to 5 it gives up 0.
  abbrev pub given : S → U → ℕ
  given t u = size t - size (apply t u)

  -- An update gains and gives up the same before and after one that doesn't meet it: a file that grows by two blocks
  -- does so whatever happens to other files.
  abbrev pub Steady : (S → U → Type 0) → (U → U → Type 0) → Type 0
  Steady Applies Meet = (t : S) (u v : U) → (Meet u v → ⊥) → Applies t u → Applies (apply t u) v
      → (gained (apply t v) u ≡ gained t u) × (given (apply t v) u ≡ given t u)
