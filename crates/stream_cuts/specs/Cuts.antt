-- Cuts of histories. A cut is a number for each stream: how many of its first updates are kept. The example is that of
-- Streams, with the updates (1, a), (2, b), (1, d).
use Rattle.std.specs.Prelude.{◌≡◌, ℕ, suc, ◌<◌, ◌≢◌, not, ◌&&◌, nat_lt, List, [], ◌∷◌, ◌++◌, take}
use Rattle.stream_cuts.specs.Streams.{Step, Enter, Seal, no_counts, with_count, one_more, entered, counts_after, keep_if}

module _ {U : Type 0} where
  -- The updates that the cut c keeps, in their order: each whose place in its own stream, from 0, is below its stream's
  -- number in c. seen has the number of updates of each stream before these.
  abbrev pub kept_from : (ℕ → ℕ) → (ℕ → ℕ) → List (ℕ × U) → List (ℕ × U)
  kept_from seen c [] = []
  kept_from seen c (e ∷ h) = keep_if (nat_lt (seen e.0) (c e.0)) e (kept_from (one_more seen e.0) c h)

  -- The updates that the cut c doesn't keep.
  abbrev pub lost_from : (ℕ → ℕ) → (ℕ → ℕ) → List (ℕ × U) → List (ℕ × U)
  lost_from seen c [] = []
  lost_from seen c (e ∷ h) = keep_if (not (nat_lt (seen e.0) (c e.0))) e (lost_from (one_more seen e.0) c h)

  -- The updates that the cut d keeps and the cut c doesn't.
  abbrev pub between_from : (ℕ → ℕ) → (ℕ → ℕ) → (ℕ → ℕ) → List (ℕ × U) → List (ℕ × U)
  between_from seen c d [] = []
  between_from seen c d (e ∷ h) =
      keep_if (nat_lt (seen e.0) (d e.0) && not (nat_lt (seen e.0) (c e.0))) e (between_from (one_more seen e.0) c d h)

  -- What the cut c keeps of a whole history: with 1 for stream 1 and 0 for stream 2, (1, a).
  abbrev pub kept : List (ℕ × U) → (ℕ → ℕ) → List (ℕ × U)
  kept h c = kept_from no_counts c h

  -- What it loses: (2, b), (1, d).
  abbrev pub lost : List (ℕ × U) → (ℕ → ℕ) → List (ℕ × U)
  lost h c = lost_from no_counts c h

  -- What the cut d keeps and c loses: with 1 for each stream in d, (2, b).
  abbrev pub between : List (ℕ × U) → (ℕ → ℕ) → (ℕ → ℕ) → List (ℕ × U)
  between h c d = between_from no_counts c d h

  -- The cut keeps the update e that comes behind the updates before: e's place in its own stream is below its stream's
  -- number. Behind (1, a), (2, b) the update (1, d) has place 1, so a cut keeps it from 2 for stream 1 on.
  abbrev pub IsKept : (ℕ → ℕ) → List (ℕ × U) → (ℕ × U) → Type 0
  IsKept c before e = counts_after no_counts before e.0 < c e.0

  -- The cut is closed: with each kept update d all earlier updates e of other streams that meet it are kept. Where a
  -- meets b, the cut with 0 for stream 1 and 1 for stream 2 isn't closed, and that with 1 for each is.
  abbrev pub IsClosed : (U → U → Type 0) → List (ℕ × U) → (ℕ → ℕ) → Type 0
  IsClosed Meet h c = (before middle rest : List (ℕ × U)) (e d : ℕ × U) → h ≡ before ++ e ∷ (middle ++ d ∷ rest)
      → e.0 ≢ d.0 → Meet e.1 d.1 → IsKept c (before ++ e ∷ middle) d → IsKept c before e

  -- The seals of these steps, each a pair of the stream and its number of updates so far, on top of those seen before.
  abbrev pub seals_from : (ℕ → ℕ) → List (Step U) → List (ℕ × ℕ)
  seals_from seen [] = []
  seals_from seen (Enter s u ∷ l) = seals_from (one_more seen s) l
  seals_from seen (Seal s ∷ l) = (s, seen s) ∷ seals_from seen l

  -- The seals from the start: (1, 1), (2, 1) in the example.
  abbrev pub seals : List (Step U) → List (ℕ × ℕ)
  seals l = seals_from no_counts l

-- The cut that these seals make, on top of the cut c: a later pair of a stream stands in place of an earlier one.
-- (1, 1), (1, 3) make 3 for stream 1.
abbrev pub cut_of : (ℕ → ℕ) → List (ℕ × ℕ) → ℕ → ℕ
cut_of c [] = c
cut_of c (p ∷ ps) = cut_of (with_count c p.0 p.1) ps

module _ {U : Type 0} where
  -- The cut after the first n seals, all 0 where n is 0: in the example it keeps (1, a) after one seal, and (1, a), (2, b)
  -- after two. Past the last seal it stays as it is.
  abbrev pub cut_at : List (Step U) → ℕ → ℕ → ℕ
  cut_at l n = cut_of no_counts (take n (seals l))

  -- The batch of the seal behind the first n: the updates that the cut after it keeps and the cut before it doesn't. In
  -- the example (1, a) for n = 0 and (2, b) for n = 1.
  abbrev pub batch : List (Step U) → ℕ → List (ℕ × U)
  batch l n = between (entered l) (cut_at l n) (cut_at l (suc n))
