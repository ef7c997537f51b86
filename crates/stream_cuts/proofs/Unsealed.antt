-- What is unsealed after some steps is what the cut after all their seals has lost: their sums are the same.
use Rattle.std.proofs.Common.{◌≡◌, ℕ, ◌+◌, ◌≤◌, List, [], ◌∷◌, refl, ap, arith, ◌∙◌, eqb, ltb}
use Rattle.std.specs.Prelude.{true, false, cond, not, ◌||◌}
use Rattle.std.proofs.lemmas.Bool.{lt-ltb, le-ltb}
use Rattle.stream_cuts.specs.Streams.{Step, Enter, Seal, no_counts, with_count, one_more, entered, keep_if, without, unsealed_after}
use Rattle.stream_cuts.specs.Cuts.{lost_from, seals_from, cut_of}
use Rattle.stream_cuts.specs.Amounts.{sum_over}
use Rattle.stream_cuts.proofs.Counts.{one_more_here, with_count_below, more_below}
use Rattle.stream_cuts.proofs.Sealed.{sealed_in, cut_sealed, cut_open}

module _ {U : Type 0} (f : (ℕ × U) → ℕ) where
  abbrev still : List (Step U) → List (ℕ × U) → ℕ
  still l [] = 0
  still l (e ∷ h) = cond (sealed_in e.0 l) 0 (f e) + still l h

  abbrev own : List (Step U) → ℕ
  own [] = 0
  own (Enter s u ∷ l) = cond (sealed_in s l) 0 (f (s, u)) + own l
  own (Seal s ∷ l) = own l

  still_none : (h : List (ℕ × U)) → still [] h ≡ sum_over f h
  still_none [] = refl
  still_none (e ∷ h) = ap (λ z. f e + z) (still_none h)

  still_enter : (s : ℕ) (u : U) (l : List (Step U)) (h : List (ℕ × U)) → still (Enter s u ∷ l) h ≡ still l h
  still_enter s u l [] = refl
  still_enter s u l (e ∷ h) = ap (λ z. cond (sealed_in e.0 l) 0 (f e) + z) (still_enter s u l h)

  still_close : (r : ℕ) (l : List (Step U)) (h : List (ℕ × U)) → still (Seal r ∷ l) h ≡ still l (without r h)
  still_close r l [] = refl
  still_close r l (e ∷ h) = let ih = still_close r l h in elim (eqb e.0 r) as (λ b. cond (b || sealed_in e.0 l) 0 (f e) + still (Seal r ∷ l) h ≡ still l (keep_if (not b) e (without r h))) [
    | true ↦ omega arith
    | false ↦ ap (λ z. cond (sealed_in e.0 l) 0 (f e) + z) ih
  ]

  unsealed_sum : (h : List (ℕ × U)) (l : List (Step U)) → sum_over f (unsealed_after h l) ≡ still l h + own l
  unsealed_sum h [] = let z = still_none h in omega arith
  unsealed_sum h (Enter s u ∷ l) = let ih = unsealed_sum ((s, u) ∷ h) l in let z = still_enter s u l h in omega arith
  unsealed_sum h (Seal s ∷ l) = let ih = unsealed_sum (without s h) l in let z = still_close s l h in omega arith

  lost_sum : (seen c : ℕ → ℕ) (l : List (Step U)) → ((q : ℕ) → c q ≤ seen q) → sum_over f (lost_from seen (cut_of c (seals_from seen l)) (entered l)) ≡ own l
  lost_sum seen c [] le = refl
  lost_sum seen c (Enter s u ∷ l) le =
      let C : ℕ → ℕ = cut_of c (seals_from (one_more seen s) l) in
      let ih : sum_over f (lost_from (one_more seen s) C (entered l)) ≡ own l = lost_sum (one_more seen s) c l (more_below c seen s le) in
      elim (sealed_in s l) as (λ b. sealed_in s l ≡ b → sum_over f (keep_if (not (ltb (seen s) (C s))) (s, u) (lost_from (one_more seen s) C (entered l))) ≡ cond b 0 (f (s, u)) + own l) [
        | true ↦ λ p. (let up = cut_sealed (one_more seen s) c l s (more_below c seen s le) p in let here = one_more_here seen s in
            ap (λ b. sum_over f (keep_if (not b) (s, u) (lost_from (one_more seen s) C (entered l)))) (lt-ltb (seen s) (C s) (omega arith)) ∙ ih ∙ (let z : own l ≡ 0 + own l = omega arith in z))
        | false ↦ λ p. (let same = cut_open (one_more seen s) c l s p in let low = le s in
            ap (λ b. sum_over f (keep_if (not b) (s, u) (lost_from (one_more seen s) C (entered l)))) (le-ltb (seen s) (C s) (omega arith)) ∙ ap (λ z. f (s, u) + z) ih)
      ] refl
  lost_sum seen c (Seal s ∷ l) le = lost_sum seen (with_count c s (seen s)) l (with_count_below c seen s le)

  -- the accounts of the unsealed updates
  pub unsealed_lost : (l : List (Step U)) → sum_over f (unsealed_after [] l) ≡ sum_over f (lost_from no_counts (cut_of no_counts (seals_from no_counts l)) (entered l))
  unsealed_lost l = let a = unsealed_sum [] l in let b = lost_sum no_counts no_counts l (λ q. let z : 0 ≤ no_counts q = omega arith in z) in omega arith
