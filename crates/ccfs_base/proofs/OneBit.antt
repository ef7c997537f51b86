-- A byte with one bit set or cleared.
use Rattle.std.proofs.Common.{◌≡◌, ◌≢◌, ℕ, zero, suc, ◌-◌, ◌*◌, ◌%◌, ◌^◌, ◌<◌, Bool, true, false, refl, sym, ap, ◌∙◌, arith, bit_and, bit_or}
use Rattle.std.specs.Int.{w8, bit_at}
use Rattle.std.proofs.lemmas.Nat.Bits.{bit_at_set_same, bit_at_set_other, bit_at_clear_same, bit_at_clear_other}
use Rattle.ccfs_base.specs.Places.{with_bit}

-- a power of two below 256 is itself in a byte
one_bit : (k : ℕ) → k < 8 → 1 * 2 ^ k % 256 ≡ 2 ^ k
one_bit zero h = refl
one_bit (suc zero) h = refl
one_bit (suc (suc zero)) h = refl
one_bit (suc (suc (suc zero))) h = refl
one_bit (suc (suc (suc (suc zero)))) h = refl
one_bit (suc (suc (suc (suc (suc zero))))) h = refl
one_bit (suc (suc (suc (suc (suc (suc zero)))))) h = refl
one_bit (suc (suc (suc (suc (suc (suc (suc zero))))))) h = refl
one_bit (suc (suc (suc (suc (suc (suc (suc (suc k)))))))) h = absurd (omega arith)

-- the bit is 1 where it was set, and 0 where it was cleared
abbrev pub bit_value : Bool → ℕ
bit_value true = 1
bit_value false = 0

pub bit_at-with_same : (byte k : ℕ) (on : Bool) → k < 8 → bit_at (with_bit byte k on) k ≡ bit_value on
bit_at-with_same byte k true h = ap (λ z. bit_at (bit_or byte z) k) (sym (one_bit k h)) ∙ bit_at_set_same w8 byte k h
bit_at-with_same byte k false h = ap (λ z. bit_at (bit_and byte (255 - z)) k) (sym (one_bit k h)) ∙ bit_at_clear_same w8 byte k h

pub bit_at-with_other : (byte k j : ℕ) (on : Bool) → k < 8 → j < 8 → j ≢ k → bit_at (with_bit byte k on) j ≡ bit_at byte j
bit_at-with_other byte k j true h l n = ap (λ z. bit_at (bit_or byte z) j) (sym (one_bit k h)) ∙ bit_at_set_other w8 byte k h j n
bit_at-with_other byte k j false h l n = ap (λ z. bit_at (bit_and byte (255 - z)) j) (sym (one_bit k h)) ∙ bit_at_clear_other w8 byte k h j l n
