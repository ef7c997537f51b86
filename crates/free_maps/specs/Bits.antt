-- The bits of one byte, counted from the lowest.
use Rattle.std.specs.Prelude.{◌≡◌, ℕ, zero, suc, ◌+◌, ◌<◌, ◌≤◌, Bool, true, false, cond, ◌==◌}
use Rattle.std.specs.Int.{bit_at}

-- whether a bit of the byte is set: of the byte 6 bits 1 and 2 are
abbrev pub has_bit : ℕ → ℕ → Bool
has_bit byte place = bit_at byte place == 1

-- all bits of the byte from this one on are set: of the byte 224 those from bit 5 on
abbrev pub AreSetFrom : ℕ → ℕ → Type 0
AreSetFrom byte from = (i : ℕ) → from ≤ i → i < 8 → has_bit byte i ≡ true

-- the bit is the lowest clear one of the byte from that one on: of the byte 7 from bit 1 on it is bit 3
pub record IsLowestClearBit (byte from place : ℕ) : Type 0 where
  pub behind : from ≤ place
  pub within : place < 8
  pub is_clear : has_bit byte place ≡ false
  pub others : (i : ℕ) → from ≤ i → i < place → has_bit byte i ≡ true

-- how many of the first places fail a test: of the places 0, 1 and 2 two fail to be 1
abbrev pub failing : (ℕ → Bool) → ℕ → ℕ
failing test zero = 0
failing test (suc n) = failing test n + cond (test n) 0 1

-- how many of the lowest bits of the byte are clear: of the lowest four of the byte 6 two are
abbrev pub clear_bits : ℕ → ℕ → ℕ
clear_bits byte lowest = failing (has_bit byte) lowest
