-- The cut of all seals at a stream that is sealed in some steps, and at one that isn't.
use Rattle.std.proofs.Common.{◌≡◌, ℕ, ◌≤◌, inl, inr, List, [], ◌∷◌, refl, sym, ap, subst, arith, ◌∙◌, eqb}
use Rattle.std.specs.Prelude.{Bool, true, false, ◌||◌}
use Rattle.std.proofs.lemmas.Bool.{eq-eqb, ne_eqb, cases_eq}
use Rattle.stream_cuts.specs.Streams.{Step, Enter, Seal, with_count, one_more}
use Rattle.stream_cuts.specs.Cuts.{seals_from, cut_of}
use Rattle.stream_cuts.proofs.Counts.{one_more_above, with_count_here, with_count_apart, with_count_below, with_count_above, more_below}

module _ {U : Type 0} where
  -- whether the stream is sealed in these steps
  abbrev pub sealed_in : ℕ → List (Step U) → Bool
  sealed_in s [] = false
  sealed_in s (Enter r u ∷ l) = sealed_in s l
  sealed_in s (Seal r ∷ l) = eqb s r || sealed_in s l

  -- the cut of all seals at a stream that is sealed, and at one that isn't
  pub cut_up : (seen c : ℕ → ℕ) (l : List (Step U)) → ((q : ℕ) → c q ≤ seen q) → (q : ℕ) → c q ≤ cut_of c (seals_from seen l) q
  cut_up seen c [] le q = omega arith
  cut_up seen c (Enter s u ∷ l) le q = cut_up (one_more seen s) c l (more_below c seen s le) q
  cut_up seen c (Seal s ∷ l) le q = let ih = cut_up seen (with_count c s (seen s)) l (with_count_below c seen s le) q in let up = with_count_above c seen s le q in omega arith

  pub cut_sealed : (seen c : ℕ → ℕ) (l : List (Step U)) (s : ℕ) → ((q : ℕ) → c q ≤ seen q) → sealed_in s l ≡ true → seen s ≤ cut_of c (seals_from seen l) s
  cut_sealed seen c [] s le p = absurd (cc)
  cut_sealed seen c (Enter r u ∷ l) s le p = let ih = cut_sealed (one_more seen r) c l s (more_below c seen r le) p in let up = one_more_above seen r s in omega arith
  cut_sealed seen c (Seal r ∷ l) s le p = elim (cases_eq s r) [
    | inl e ↦ (let up = cut_up seen (with_count c r (seen r)) l (with_count_below c seen r le) s in
        let here : with_count c r (seen r) s ≡ seen s = subst (λ z. with_count c r (seen r) z ≡ seen z) (sym e) (with_count_here c r (seen r)) in omega arith)
    | inr ne ↦ cut_sealed seen (with_count c r (seen r)) l s (with_count_below c seen r le) (ap (λ b. b || sealed_in s l) (sym (ne_eqb s r ne)) ∙ p)
  ]

  pub cut_open : (seen c : ℕ → ℕ) (l : List (Step U)) (s : ℕ) → sealed_in s l ≡ false → cut_of c (seals_from seen l) s ≡ c s
  cut_open seen c [] s p = refl
  cut_open seen c (Enter r u ∷ l) s p = cut_open (one_more seen r) c l s p
  cut_open seen c (Seal r ∷ l) s p = elim (cases_eq s r) [
    | inl e ↦ absurd (let bad : true ≡ false = ap (λ b. b || sealed_in s l) (sym (eq-eqb s r e)) ∙ p in cc)
    | inr ne ↦ cut_open seen (with_count c r (seen r)) l s (ap (λ b. b || sealed_in s l) (sym (ne_eqb s r ne)) ∙ p) ∙ with_count_apart c r (seen r) s (λ q. ne (sym q))
  ]
