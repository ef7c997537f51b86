-- Bits of a number that tell of each stream up to one.
use Rattle.std.proofs.Common.{◌≡◌, ◌≢◌, ℕ, ◌+◌, ◌<◌, ◌≤◌, inl, inr, Bool, false, ◌==◌, sym, ap, subst, ◌∙◌, arith}
use Rattle.std.proofs.lemmas.Bool.{cases_eq}
use Rattle.std.proofs.lemmas.Nat.Bits.{bit_at-zero}
use Rattle.cross_dep.specs.Books.{has_bit}

-- The bits tell what the test says of each number below n, and the others are clear.
pub record TellsBelow (bits n : ℕ) (test : ℕ → Bool) : Type 0 where
  pub below : (s : ℕ) → s < n → has_bit bits s ≡ test s
  pub above : (s : ℕ) → n ≤ s → has_bit bits s ≡ false

-- no bit is set
pub tells_none : (test : ℕ → Bool) → TellsBelow 0 0 test
tells_none test = record { below = λ (s : ℕ) (l : s < 0). absurd (omega arith); above = λ (s : ℕ) (l : 0 ≤ s). ap (λ z. z == 1) (bit_at-zero s) }

-- one more bit is set, or left clear
pub tells_more : (bits new n : ℕ) (test : ℕ → Bool) (on : Bool) → TellsBelow bits n test → on ≡ test n → has_bit new n ≡ on
    → ((s : ℕ) → s ≢ n → has_bit new s ≡ has_bit bits s) → TellsBelow new (n + 1) test
tells_more bits new n test on tells e own others = record {
  below = λ (s : ℕ) (l : s < n + 1). elim (cases_eq s n) [
    | inl same ↦ subst (λ z. has_bit new z ≡ test z) (sym same) (own ∙ e)
    | inr apart ↦ others s apart ∙ tells.below s (omega arith)
  ];
  above = λ (s : ℕ) (l : n + 1 ≤ s). others s (λ (same : s ≡ n). omega arith) ∙ tells.above s (omega arith);
}
