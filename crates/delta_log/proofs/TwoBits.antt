-- Two bits of one byte may be set or cleared in either order.
use Rattle.std.proofs.Common.{◌≡◌, ◌≢◌, ℕ, ◌-◌, ◌^◌, ◌<◌, ◌≤◌, Bool, true, false, sym, ap, ◌∙◌, arith, inl, inr, bit_and, max}
use Rattle.std.specs.Int.{bit_at}
use Rattle.std.proofs.Math.Pow.{pow-lt}
use Rattle.std.proofs.lemmas.Bool.{cases_lt, cases_eq}
use Rattle.std.proofs.lemmas.Nat.{and_le_r}
use Rattle.std.proofs.lemmas.Nat.Bits.{same_from_bits, bit_at_or, bit_at_above}
use Rattle.ccfs_base.specs.Places.{with_bit}
use Rattle.ccfs_base.proofs.OneBit.{bit_at-with_same, bit_at-with_other}

-- past the bits of a byte a cleared bit leaves none
high_zero : (byte k t : ℕ) → 8 ≤ t → bit_at (with_bit byte k false) t ≡ 0
high_zero byte k t h = bit_at_above (bit_and byte (255 - 2 ^ k)) 8 t (omega (arith, and_le_r byte (255 - 2 ^ k))) h

-- and a set one leaves them as they are
high_stays : (byte k t : ℕ) → k < 8 → 8 ≤ t → bit_at (with_bit byte k true) t ≡ bit_at byte t
high_stays byte k t l h =
    bit_at_or byte (2 ^ k) t ∙ ap (λ (z : ℕ). max (bit_at byte t) z) (bit_at_above (2 ^ k) 8 t (pow-lt l) h) ∙ omega arith

high_comm : (byte k j : ℕ) (on off : Bool) (t : ℕ) → k < 8 → j < 8 → 8 ≤ t
    → bit_at (with_bit (with_bit byte k on) j off) t ≡ bit_at (with_bit (with_bit byte j off) k on) t
high_comm byte k j false false t l m h = high_zero (with_bit byte k false) j t h ∙ sym (high_zero (with_bit byte j false) k t h)
high_comm byte k j false true t l m h =
    high_stays (with_bit byte k false) j t m h ∙ high_zero byte k t h ∙ sym (high_zero (with_bit byte j true) k t h)
high_comm byte k j true false t l m h =
    high_zero (with_bit byte k true) j t h ∙ sym (high_stays (with_bit byte j false) k t l h ∙ high_zero byte j t h)
high_comm byte k j true true t l m h =
    high_stays (with_bit byte k true) j t m h ∙ high_stays byte k t l h
    ∙ sym (high_stays (with_bit byte j true) k t l h ∙ high_stays byte j t m h)

pub with_bit_comm : (byte k j : ℕ) (on off : Bool) → k < 8 → j < 8 → k ≢ j → with_bit (with_bit byte k on) j off ≡ with_bit (with_bit byte j off) k on
with_bit_comm byte k j on off l m n =
    same_from_bits (with_bit (with_bit byte k on) j off) (with_bit (with_bit byte j off) k on)
    (λ t. elim (cases_lt t 8) [
      | inr high ↦ high_comm byte k j on off t l m high
      | inl low ↦ elim (cases_eq t j) [
        | inl e ↦
            ap (λ (z : ℕ). bit_at (with_bit (with_bit byte k on) j off) z) e ∙ bit_at-with_same (with_bit byte k on) j off m
            ∙ sym (ap (λ (z : ℕ). bit_at (with_bit (with_bit byte j off) k on) z) e ∙ bit_at-with_other (with_bit byte j off) k j on l m (λ (z : j ≡ k). n (sym z)) ∙ bit_at-with_same byte j off m)
        | inr d ↦
            bit_at-with_other (with_bit byte k on) j t off m low d
            ∙ elim (cases_eq t k) [
              | inl e ↦
                  ap (λ (z : ℕ). bit_at (with_bit byte k on) z) e ∙ bit_at-with_same byte k on l
                  ∙ sym (ap (λ (z : ℕ). bit_at (with_bit (with_bit byte j off) k on) z) e ∙ bit_at-with_same (with_bit byte j off) k on l)
              | inr f ↦
                  bit_at-with_other byte k t on l low f
                  ∙ sym (bit_at-with_other (with_bit byte j off) k t on l low f ∙ bit_at-with_other byte j t off m low d)
            ]
      ]
    ])
