-- Which streams an update seals before it enters its own.
use Rattle.std.specs.Prelude.{ℕ, ◌<◌, Bool, if◌then◌else◌, not, ◌&&◌, ◌==◌, List, [], ◌∷◌, ◌++◌, map}
use Rattle.std.specs.List.{AllByRecursion, filter, list_any, range_with_len}
use Rattle.stream_cuts.specs.Streams.{Step, Enter, Seal}

-- The streams, in rising order: 0 to 63.
abbrev pub streams : List ℕ
streams = range_with_len 0 64

module _ {U : Type 0} where
  -- Each of these updates stands in one of the streams: (1, a), but not (64, a).
  abbrev pub Numbered : List (ℕ × U) → Type 0
  Numbered = AllByRecursion (λ e. e.0 < 64)

  -- The stream has an unsealed update: of (1, d), stream 1 alone.
  abbrev pub is_open : List (ℕ × U) → ℕ → Bool
  is_open unsealed s = list_any (λ e. e.0 == s) unsealed

  -- The stream r is another than s and has an unsealed update that meets u: stream 1 with (1, a), for a b that enters
  -- stream 2 and meets a.
  abbrev pub is_forced : (U → U → Bool) → ℕ → U → List (ℕ × U) → ℕ → Bool
  is_forced meets s u unsealed r = not (r == s) && list_any (λ e. e.0 == r && meets e.1 u) unsealed

  -- The streams that are sealed before u enters s: in rising order those that it forces, and then s itself, where own
  -- says so and s has an unsealed update. Where a meets b, stream 1 before b enters stream 2.
  abbrev pub sealed_before : (U → U → Bool) → ℕ → U → Bool → List (ℕ × U) → List ℕ
  sealed_before meets s u own unsealed =
      filter (is_forced meets s u unsealed) streams ++ (if own && is_open unsealed s then s ∷ [] else [])

  -- The steps as u enters s: those seals and then the update, as Seal 1, Enter 2 b.
  abbrev pub entering : (U → U → Bool) → ℕ → U → Bool → List (ℕ × U) → List (Step U)
  entering meets s u own unsealed = map Seal (sealed_before meets s u own unsealed) ++ Enter s u ∷ []

  -- The steps as the streams rs are sealed: a stream that has nothing unsealed is passed over. With (1, a) unsealed,
  -- sealing 1 and 2 is Seal 1.
  abbrev pub sealing : List ℕ → List (ℕ × U) → List (Step U)
  sealing rs unsealed = map Seal (filter (is_open unsealed) rs)
