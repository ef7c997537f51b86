-- The lowest number that passes a test.
use Rattle.std.proofs.Common.{◌≡◌, ℕ, zero, suc, ◌+◌, ◌-◌, ◌<◌, Bool, true, false, cond, refl, ap, ◌∙◌, inl, inr, arith}
use Rattle.std.proofs.Math.Path.{ap₂}
use Rattle.std.specs.Prelude.{Option, Some, None, is_some, MatchOption}
use Rattle.std.specs.Option.{option_or}
use Rattle.std.proofs.lemmas.Bool.{cases_eq}
use Rattle.image_model.specs.Lowest.{lowest, NoneBelow, IsLowest}

below_or_here : (test : ℕ → Bool) (n : ℕ) (b : Bool) → test n ≡ b → (below : Option ℕ) → MatchOption below (NoneBelow test n) (IsLowest test n)
    → MatchOption (option_or below (cond b (Some n) None)) (NoneBelow test (suc n)) (IsLowest test (suc n))
below_or_here test n true here None none = record { within = omega arith; passes = here; least = none }
below_or_here test n false here None none = λ i h. elim (cases_eq i n) [
  | inl same ↦ ap test same ∙ here
  | inr other ↦ none i (omega arith)
]
below_or_here test n b here (Some i) is =
    let within : i < n = is.within in
    record { within = omega arith; passes = is.passes; least = is.least }

pub lowest_is_lowest : (test : ℕ → Bool) (n : ℕ) → MatchOption (lowest test n) (NoneBelow test n) (IsLowest test n)
lowest_is_lowest test zero = λ i h. absurd (omega arith)
lowest_is_lowest test (suc n) = below_or_here test n (test n) refl (lowest test n) (lowest_is_lowest test n)

pub lowest_none : (test : ℕ → Bool) (n : ℕ) → NoneBelow test n → lowest test n ≡ None
lowest_none test zero none = refl
lowest_none test (suc n) none =
    ap₂ (λ (o : Option ℕ) (b : Bool). option_or o (cond b (Some n) None)) (lowest_none test n (λ i h. none i (omega arith))) (none n (omega arith))

-- ---- a search from 0 up

pub passed_by : (test : ℕ → Bool) (n : ℕ) → lowest test n ≡ None → test n ≡ false → lowest test (n + 1) ≡ None
passed_by test n none fails =
    let one : n + 1 ≡ suc n = omega arith in
    ap (lowest test) one ∙ ap₂ (λ (o : Option ℕ) (b : Bool). option_or o (cond b (Some n) None)) none fails

found_after : (test : ℕ → Bool) (n k m : ℕ) → m ≡ suc (k + n) → lowest test n ≡ None → test n ≡ true → lowest test m ≡ Some n
found_after test n zero m e none passes =
    let next : m ≡ suc n = omega arith in
    ap (lowest test) next ∙ ap₂ (λ (o : Option ℕ) (b : Bool). option_or o (cond b (Some n) None)) none passes
found_after test n (suc k) m e none passes =
    let next : m ≡ suc (suc (k + n)) = omega arith in
    ap (lowest test) next
    ∙ ap (λ (o : Option ℕ). option_or o (cond (test (suc (k + n))) (Some (suc (k + n))) None)) (found_after test n k (suc (k + n)) refl none passes)

pub found_at : (test : ℕ → Bool) (n m : ℕ) → n < m → lowest test n ≡ None → test n ≡ true → lowest test m ≡ Some n
found_at test n m below none passes = found_after test n (m - suc n) m (omega arith) none passes

pub found_below : (test : ℕ → Bool) (n m : ℕ) → n < m → lowest test n ≡ None → test n ≡ true → is_some (lowest test m) ≡ true
found_below test n m below none passes = ap (λ o. is_some o) (found_at test n m below none passes)
