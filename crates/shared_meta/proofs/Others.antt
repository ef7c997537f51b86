-- What is tested of all lists but one.
use Rattle.std.proofs.Common.{◌≡◌, ◌≢◌, ◌==◌, ◌||◌, ℕ, zero, suc, ◌+◌, Bool, true, List, [], ◌∷◌, refl, arith, inl, inr, Vec, vec_items}
use Rattle.std.specs.List.{list_all, enumerate_from}
use Rattle.std.proofs.lemmas.Bool.{eqb-true, eq-eqb, or_cases, or_left, or_right, and_parts, and_from, cases_eq}
use Rattle.ccfs_base.specs.declared.records.Rec.{Rec}
use Rattle.record_logs.specs.Held.{recs_of, list_at}

-- whether a list is the one left out, or passes
abbrev passes_or_is : (Rec → Bool) → ℕ → ℕ → List Rec → Bool
passes_or_is p own at log = at == own || list_all p log

module _ {Z : Type 0} (p : Rec → Bool) (own : ℕ) where
  pub others_forth : (n : ℕ) (logs : List (Vec Rec Z)) → list_all (λ log. log.0 == own || list_all p (vec_items log.1)) (enumerate_from n logs) ≡ true
      → (k : ℕ) → n + k ≢ own → list_all p (list_at (recs_of logs) k) ≡ true
  others_forth n [] h k d = refl
  others_forth n (log ∷ more) h zero d =
      let both = and_parts (passes_or_is p own n (vec_items log)) (list_all (λ log. log.0 == own || list_all p (vec_items log.1)) (enumerate_from (n + 1) more)) h in
      elim (or_cases (n == own) (list_all p (vec_items log)) both.0) [
        | inl e ↦ let same : n ≡ own = eqb-true n own e in absurd (d (omega arith))
        | inr e ↦ e
      ]
  others_forth n (log ∷ more) h (suc k) d =
      let both = and_parts (passes_or_is p own n (vec_items log)) (list_all (λ log. log.0 == own || list_all p (vec_items log.1)) (enumerate_from (n + 1) more)) h in
      others_forth (n + 1) more both.1 k (λ e. d (omega arith))

  pub others_back : (n : ℕ) (logs : List (Vec Rec Z)) → ((k : ℕ) → n + k ≢ own → list_all p (list_at (recs_of logs) k) ≡ true)
      → list_all (λ log. log.0 == own || list_all p (vec_items log.1)) (enumerate_from n logs) ≡ true
  others_back n [] h = refl
  others_back n (log ∷ more) h =
      and_from (passes_or_is p own n (vec_items log)) (list_all (λ log. log.0 == own || list_all p (vec_items log.1)) (enumerate_from (n + 1) more))
      (elim (cases_eq n own) [
        | inl e ↦ or_left (n == own) (list_all p (vec_items log)) (eq-eqb n own e)
        | inr d ↦ or_right (n == own) (list_all p (vec_items log)) (h 0 (λ e. d (omega arith)))
      ])
      (others_back (n + 1) more (λ k d. h (suc k) (λ e. d (omega arith))))
