-- How many of the first places fail a test.
use Rattle.std.proofs.Common.{◌≡◌, ◌≢◌, ℕ, zero, suc, ◌+◌, ◌<◌, ◌≤◌, Bool, true, false, cond, refl, sym, ap, ◌∙◌, inl, inr, add-zero, add_assoc, arith}
use Rattle.std.proofs.Math.Path.{ap₂}
use Rattle.std.proofs.Math.Nat.{add-suc}
use Rattle.std.proofs.lemmas.Bool.{cases_eq}
use Rattle.free_maps.specs.Bits.{failing}

-- the first m places and the n behind them are counted apart
pub failing-append : (test : ℕ → Bool) (m n : ℕ) → failing test (m + n) ≡ failing test m + failing (λ i. test (m + i)) n
failing-append test m zero = ap (failing test) (add-zero m) ∙ sym (add-zero (failing test m))
failing-append test m (suc n) =
    ap (failing test) (add-suc m n) ∙ ap (λ z. z + cond (test (m + n)) 0 1) (failing-append test m n)
    ∙ add_assoc (failing test m) (failing (λ i. test (m + i)) n) (cond (test (m + n)) 0 1)

-- only the answers count
pub failing-same : (p q : ℕ → Bool) (n : ℕ) → ((i : ℕ) → i < n → p i ≡ q i) → failing p n ≡ failing q n
failing-same p q zero same = refl
failing-same p q (suc n) same =
    ap₂ (λ a b. a + cond b 0 1) (failing-same p q n (λ i h. same i (omega arith))) (same n (omega arith))

at_most_one : (b : Bool) → cond {A = ℕ} b 0 1 ≤ 1
at_most_one true = omega arith
at_most_one false = omega arith

passed : (b : Bool) → b ≡ true → cond {A = ℕ} b 0 1 ≡ 0
passed b e = ap (λ z. cond {A = ℕ} z 0 1) e

failed : (b : Bool) → b ≡ false → cond {A = ℕ} b 0 1 ≡ 1
failed b e = ap (λ z. cond {A = ℕ} z 0 1) e

-- no more places fail than there are
pub failing-le : (test : ℕ → Bool) (n : ℕ) → failing test n ≤ n
failing-le test zero = omega arith
failing-le test (suc n) =
    let before = failing-le test n in
    let here : cond {A = ℕ} (test n) 0 1 ≤ 1 = at_most_one (test n) in
    omega arith

-- a test that passes at one place more fails once less
pub failing-but_one : (p q : ℕ → Bool) (k n : ℕ) → k < n → p k ≡ true → q k ≡ false → ((i : ℕ) → i ≢ k → p i ≡ q i) → failing p n + 1 ≡ failing q n
failing-but_one p q k zero within passes fails others = absurd (omega arith)
failing-but_one p q k (suc n) within passes fails others = elim (cases_eq n k) [
  | inl e ↦
      let p_here = passed (p n) (ap p e ∙ passes) in
      let q_here = failed (q n) (ap q e ∙ fails) in
      let same : failing p n ≡ failing q n = failing-same p q n (λ i h. others i (omega arith)) in
      omega arith
  | inr ne ↦
      let here : cond {A = ℕ} (p n) 0 1 ≡ cond {A = ℕ} (q n) 0 1 = ap (λ b. cond {A = ℕ} b 0 1) (others n ne) in
      let before : failing p n + 1 ≡ failing q n = failing-but_one p q k n (omega arith) passes fails others in
      omega arith
]

-- where each place passes none fails
pub failing-none : (test : ℕ → Bool) (n : ℕ) → ((i : ℕ) → i < n → test i ≡ true) → failing test n ≡ 0
failing-none test zero all = refl
failing-none test (suc n) all =
    let before : failing test n ≡ 0 = failing-none test n (λ i h. all i (omega arith)) in
    let here = passed (test n) (all n (omega arith)) in
    omega arith

passes_alone : (b : Bool) → cond {A = ℕ} b 0 1 ≡ 0 → b ≡ true
passes_alone true e = refl
passes_alone false e = absurd (omega arith)

-- where none fails each place passes
pub all_pass : (test : ℕ → Bool) (n : ℕ) → failing test n ≡ 0 → (i : ℕ) → i < n → test i ≡ true
all_pass test zero none i within = absurd (omega arith)
all_pass test (suc n) none i within = elim (cases_eq i n) [
  | inl e ↦
      let here : cond {A = ℕ} (test n) 0 1 ≡ 0 = omega arith in
      ap test e ∙ passes_alone (test n) here
  | inr ne ↦
      let before : failing test n ≡ 0 = omega arith in
      all_pass test n before i (omega arith)
]
