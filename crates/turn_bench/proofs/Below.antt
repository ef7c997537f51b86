-- What holds of the first numbers holds of each below.
use Rattle.std.proofs.Common.{ℕ, zero, suc, ◌<◌, arith}

pub below_one : (P : ℕ → Type 0) → P 0 → (c : ℕ) → c < 1 → P c
below_one P a zero lt = a
below_one P a (suc n) lt = absurd (omega arith)

pub below_two : (P : ℕ → Type 0) → P 0 → P 1 → (c : ℕ) → c < 2 → P c
below_two P a b zero lt = a
below_two P a b (suc zero) lt = b
below_two P a b (suc (suc n)) lt = absurd (omega arith)

pub below_four : (P : ℕ → Type 0) → P 0 → P 1 → P 2 → P 3 → (c : ℕ) → c < 4 → P c
below_four P a b c d zero lt = a
below_four P a b c d (suc zero) lt = b
below_four P a b c d (suc (suc zero)) lt = c
below_four P a b c d (suc (suc (suc zero))) lt = d
below_four P a b c d (suc (suc (suc (suc n)))) lt = absurd (omega arith)
