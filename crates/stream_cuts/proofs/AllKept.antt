-- Where nothing is unsealed, the cut after all seals keeps every update.
use Rattle.std.proofs.Common.{◌≡◌, ℕ, List, [], ◌∷◌, refl, sym, ap, arith, ◌∙◌, ltb, length}
use Rattle.std.specs.Prelude.{true, false, not}
use Rattle.std.proofs.lemmas.List.{take_all}
use Rattle.stream_cuts.specs.Streams.{Step, no_counts, one_more, entered, keep_if, unsealed_after}
use Rattle.stream_cuts.specs.Cuts.{kept_from, lost_from, kept, seals, cut_of, cut_at}
use Rattle.stream_cuts.specs.Amounts.{sum_over}
use Rattle.stream_cuts.specs.States.{after, state_at}
use Rattle.stream_cuts.proofs.Unsealed.{unsealed_lost}

module _ {U : Type 0} where
  none_of_sum : (h : List (ℕ × U)) → sum_over (λ e. 1) h ≡ 0 → h ≡ []
  none_of_sum [] z = refl
  none_of_sum (e ∷ h) z = absurd (omega arith)

  pub kept_of_none_lost : (seen c : ℕ → ℕ) (h : List (ℕ × U)) → lost_from seen c h ≡ [] → kept_from seen c h ≡ h
  kept_of_none_lost seen c [] none = refl
  kept_of_none_lost seen c (e ∷ h) none =
      let ih = kept_of_none_lost (one_more seen e.0) c h in
      elim (ltb (seen e.0) (c e.0)) as (λ b. keep_if (not b) e (lost_from (one_more seen e.0) c h) ≡ [] → keep_if b e (kept_from (one_more seen e.0) c h) ≡ e ∷ h) [
        | true ↦ λ p. ap (λ z. e ∷ z) (ih p)
        | false ↦ λ p. absurd (cc)
      ] none

  -- the cut after all seals
  pub cut_at_end : (l : List (Step U)) → cut_at l (length (seals l)) ≡ cut_of no_counts (seals l)
  cut_at_end l = ap (cut_of no_counts) (take_all (length (seals l)) (seals l) (omega arith))

  pub all_kept : (l : List (Step U)) → unsealed_after [] l ≡ [] → kept (entered l) (cut_at l (length (seals l))) ≡ entered l
  all_kept l none =
      let f : (ℕ × U) → ℕ = λ e. 1 in
      let zero_lost : sum_over f (lost_from no_counts (cut_of no_counts (seals l)) (entered l)) ≡ 0 = sym (unsealed_lost f l) ∙ ap (sum_over f) none in
      ap (kept (entered l)) (cut_at_end l)
      ∙ kept_of_none_lost no_counts (cut_of no_counts (seals l)) (entered l) (none_of_sum (lost_from no_counts (cut_of no_counts (seals l)) (entered l)) zero_lost)

-- so the state at that cut is the last one
pub state_at_end : {S U : Type 0} (apply : S → U → S) (t : S) (l : List (Step U)) → unsealed_after [] l ≡ [] → state_at apply t l (length (seals l)) ≡ after apply t (entered l)
state_at_end apply t l none = ap (after apply t) (all_kept l none)
