-- Updates that enter numbered streams, and seals of streams, for any type U of updates.
-- The comments share an example: a enters stream 1, b enters stream 2, stream 1 is sealed, d enters stream 1, and
-- stream 2 is sealed. proofs/Examples computes it.
use Rattle.std.specs.Prelude.{ℕ, suc, ◌≢◌, Bool, true, false, if◌then◌else◌, not, ◌==◌, List, [], ◌∷◌}
use Rattle.std.specs.List.{AllByRecursion}

-- One step of what happens: an update enters a stream, or a stream is sealed (its running transaction is closed).
pub data Step (U : Type 0) : Type 0 where
  Enter : (stream : ℕ) (update : U) → Step U
  Seal : (stream : ℕ) → Step U

-- A number for each stream; here each has 0.
abbrev pub no_counts : ℕ → ℕ
no_counts s = 0

-- The numbers f, but n at the stream s: with_count no_counts 1 5 has 5 at stream 1, and 0 at every other.
abbrev pub with_count : (ℕ → ℕ) → ℕ → ℕ → ℕ → ℕ
with_count f s n q = if s == q then n else f q

-- The numbers f, but one more at the stream s: one_more no_counts 1 has 1 at stream 1.
abbrev pub one_more : (ℕ → ℕ) → ℕ → ℕ → ℕ
one_more f s = with_count f s (suc (f s))

module _ {U : Type 0} where
  -- The updates, each with its stream, in their order: (1, a), (2, b), (1, d) in the example.
  abbrev pub entered : List (Step U) → List (ℕ × U)
  entered [] = []
  entered (Enter s u ∷ l) = (s, u) ∷ entered l
  entered (Seal s ∷ l) = entered l

  -- How many updates each stream has, on top of those seen before: 2 at stream 1 and 1 at stream 2 in the example.
  abbrev pub counts_after : (ℕ → ℕ) → List (ℕ × U) → ℕ → ℕ
  counts_after seen [] = seen
  counts_after seen (e ∷ h) = counts_after (one_more seen e.0) h

  -- The list h, with e before it where the test holds.
  abbrev pub keep_if : Bool → (ℕ × U) → List (ℕ × U) → List (ℕ × U)
  keep_if true e h = e ∷ h
  keep_if false e h = h

  -- The updates of other streams than s: without 1 leaves (2, b) of (1, a), (2, b).
  abbrev pub without : ℕ → List (ℕ × U) → List (ℕ × U)
  without s [] = []
  without s (e ∷ h) = keep_if (not (e.0 == s)) e (without s h)

  -- The updates of the stream s: of_stream 1 leaves (1, a) of (1, a), (2, b).
  abbrev pub of_stream : ℕ → List (ℕ × U) → List (ℕ × U)
  of_stream s [] = []
  of_stream s (e ∷ h) = keep_if (e.0 == s) e (of_stream s h)

  -- The updates that are unsealed after these steps, the last first, where the given ones are unsealed before them:
  -- (1, d) in the example, where none are.
  abbrev pub unsealed_after : List (ℕ × U) → List (Step U) → List (ℕ × U)
  unsealed_after unsealed [] = unsealed
  unsealed_after unsealed (Enter s u ∷ l) = unsealed_after ((s, u) ∷ unsealed) l
  unsealed_after unsealed (Seal s ∷ l) = unsealed_after (without s unsealed) l

  module _ (Meet : U → U → Type 0) where
    -- u may enter the stream s: no unsealed update of another stream meets it. Where a meets b, b may not enter stream 2
    -- while (1, a) is unsealed.
    abbrev pub MayEnter : ℕ → U → List (ℕ × U) → Type 0
    MayEnter s u = AllByRecursion (λ e. e.0 ≢ s → Meet e.1 u → ⊥)

    -- Each update enters once the other streams with an unsealed update that meets it are sealed. Where a meets b, the
    -- example's steps aren't guarded; they are where stream 1 is sealed before b enters.
    abbrev pub IsGuarded : List (ℕ × U) → List (Step U) → Type 0
    IsGuarded unsealed [] = Unit {0}
    IsGuarded unsealed (Enter s u ∷ l) = MayEnter s u unsealed × IsGuarded ((s, u) ∷ unsealed) l
    IsGuarded unsealed (Seal s ∷ l) = IsGuarded (without s unsealed) l
