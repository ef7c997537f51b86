-- What has happened stays: more steps keep the seals, the cuts and what they keep.
use Rattle.std.proofs.Common.{◌≡◌, ℕ, ◌≤◌, List, [], ◌∷◌, ◌++◌, refl, ap, arith, ◌∙◌, ltb, take, length}
use Rattle.std.specs.Prelude.{true, false}
use Rattle.std.proofs.lemmas.List.{append-nil, take-append-le}
use Rattle.stream_cuts.specs.Streams.{Step, Enter, Seal, no_counts, one_more, entered, counts_after, keep_if, without, unsealed_after}
use Rattle.stream_cuts.specs.Cuts.{kept_from, kept, seals_from, seals, cut_of, cut_at}
use Rattle.stream_cuts.specs.States.{after, state_at}
use Rattle.stream_cuts.proofs.Closedness.{kept_none}
use Rattle.stream_cuts.proofs.Closed.{cut_below}

module _ {U : Type 0} where
  pub entered_append : (l k : List (Step U)) → entered (l ++ k) ≡ entered l ++ entered k
  entered_append [] k = refl
  entered_append (Enter s u ∷ l) k = ap (λ z. (s, u) ∷ z) (entered_append l k)
  entered_append (Seal s ∷ l) k = entered_append l k

  pub unsealed_append : (h : List (ℕ × U)) (l k : List (Step U)) → unsealed_after h (l ++ k) ≡ unsealed_after (unsealed_after h l) k
  unsealed_append h [] k = refl
  unsealed_append h (Enter s u ∷ l) k = unsealed_append ((s, u) ∷ h) l k
  unsealed_append h (Seal s ∷ l) k = unsealed_append (without s h) l k

  pub seals_from_append : (seen : ℕ → ℕ) (l k : List (Step U)) → seals_from seen (l ++ k) ≡ seals_from seen l ++ seals_from (counts_after seen (entered l)) k
  seals_from_append seen [] k = refl
  seals_from_append seen (Enter s u ∷ l) k = seals_from_append (one_more seen s) l k
  seals_from_append seen (Seal s ∷ l) k = ap (λ z. (s, seen s) ∷ z) (seals_from_append seen l k)

  pub seals_append : (l k : List (Step U)) → seals (l ++ k) ≡ seals l ++ seals_from (counts_after no_counts (entered l)) k
  seals_append l k = seals_from_append no_counts l k

  pub kept_from_append : (seen c : ℕ → ℕ) (h g : List (ℕ × U)) → kept_from seen c (h ++ g) ≡ kept_from seen c h ++ kept_from (counts_after seen h) c g
  kept_from_append seen c [] g = refl
  kept_from_append seen c (e ∷ h) g =
      let ih = kept_from_append (one_more seen e.0) c h g in
      elim (ltb (seen e.0) (c e.0)) as (λ b. keep_if b e (kept_from (one_more seen e.0) c (h ++ g)) ≡ keep_if b e (kept_from (one_more seen e.0) c h) ++ kept_from (counts_after (one_more seen e.0) h) c g) [
        | true ↦ ap (λ z. e ∷ z) ih
        | false ↦ ih
      ]

  -- the first n seals stay the first n seals
  pub seals_longer : (l k : List (Step U)) (n : ℕ) → n ≤ length (seals l) → take n (seals (l ++ k)) ≡ take n (seals l)
  seals_longer l k n le = ap (take n) (seals_append l k) ∙ take-append-le n (seals l) (seals_from (counts_after no_counts (entered l)) k) le

  -- the cut after them too
  pub cut_at_longer : (l k : List (Step U)) (n : ℕ) → n ≤ length (seals l) → cut_at (l ++ k) n ≡ cut_at l n
  cut_at_longer l k n le = ap (cut_of no_counts) (seals_longer l k n le)

  -- and what it keeps
  pub kept_longer : (l k : List (Step U)) (n : ℕ) → n ≤ length (seals l) → kept (entered (l ++ k)) (cut_at (l ++ k) n) ≡ kept (entered l) (cut_at l n)
  kept_longer l k n le =
      ap (λ z. kept_from no_counts z (entered (l ++ k))) (cut_at_longer l k n le)
      ∙ ap (λ z. kept_from no_counts (cut_at l n) z) (entered_append l k)
      ∙ kept_from_append no_counts (cut_at l n) (entered l) (entered k)
      ∙ ap (λ z. kept_from no_counts (cut_at l n) (entered l) ++ z)
      (kept_none (counts_after no_counts (entered l)) (cut_at l n) (entered k) (cut_below no_counts no_counts n l (λ q. let z : 0 ≤ no_counts q = omega arith in z)))
      ∙ append-nil (kept_from no_counts (cut_at l n) (entered l))

  -- before any seal nothing is kept
  pub kept_at_start : (l : List (Step U)) → kept (entered l) (cut_at l 0) ≡ []
  kept_at_start l = kept_none no_counts no_counts (entered l) (λ s. let z : 0 ≤ no_counts s = omega arith in z)

  -- the three in one
  pub longer : (l k : List (Step U)) (n : ℕ) → n ≤ length (seals l)
      → (take n (seals (l ++ k)) ≡ take n (seals l)) × (cut_at (l ++ k) n ≡ cut_at l n) × (kept (entered (l ++ k)) (cut_at (l ++ k) n) ≡ kept (entered l) (cut_at l n))
  longer l k n le = (seals_longer l k n le, cut_at_longer l k n le, kept_longer l k n le)

module _ {S U : Type 0} (apply : S → U → S) where
  pub after_append : (t : S) (h g : List (ℕ × U)) → after apply t (h ++ g) ≡ after apply (after apply t h) g
  after_append t [] g = refl
  after_append t (e ∷ h) g = after_append (apply t e.1) h g

  -- the state at a cut stays
  pub state_longer : (t : S) (l k : List (Step U)) (n : ℕ) → n ≤ length (seals l)
      → state_at apply t (l ++ k) n ≡ state_at apply t l n
  state_longer t l k n le = ap (after apply t) (kept_longer l k n le)

  -- before any seal it is the state at the start
  pub state_at_start : (t : S) (l : List (Step U)) → state_at apply t l 0 ≡ t
  state_at_start t l = ap (after apply t) (kept_at_start l)
