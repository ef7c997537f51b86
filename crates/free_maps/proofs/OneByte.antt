-- The bits of one byte: those that are set, the lowest that is clear, and how many are clear.
use Rattle.std.proofs.Common.{◌≡◌, ◌≢◌, ℕ, zero, suc, ◌+◌, ◌-◌, ◌*◌, ◌/◌, ◌%◌, ◌^◌, ◌<◌, ◌≤◌, max, true, false, cond, eqb, sym, ap, ◌∙◌, inl, inr, lit<, eq-eqb, arith}
use Rattle.std.specs.Int.{w8, bit_at, trailing_ones}
use Rattle.std.specs.Int.RustNames.{bit_and, bit_or, count_ones}
use Rattle.std.specs.Int.Count.{ones_cat, ones-ones, ones-le}
use Rattle.std.proofs.Math.Nat.{mod-lt, mod-eq_of_lt}
use Rattle.std.proofs.Math.Pow.{pow-lt}
use Rattle.std.proofs.lemmas.Bool.{cases_lt}
use Rattle.std.proofs.lemmas.Nat.{and_mask, mod-pow-add, or_lt, pow_pos}
use Rattle.std.proofs.lemmas.Nat.Bits.{bit_at-lt, bit_at_or, bit_at_ones, bit_at_ones_above, bit_at-trailing_ones, bit_at_set_same, bit_at_set_other, bit_at_clear_same, bit_at_clear_other, ones_shr}
use Rattle.free_maps.specs.Bits.{has_bit, AreSetFrom, IsLowestClearBit, failing, clear_bits}

-- ---- how many are clear

-- one bit is either clear or counted
one_bit : (b : ℕ) → b < 2 → cond (eqb b 1) 0 1 + count_ones b ≡ 1
one_bit zero below = let none : count_ones 0 ≤ 0 = ones-le 0 0 (lit< tt) in omega arith
one_bit (suc zero) below = let one : count_ones 1 ≡ 1 = ones-ones 1 in omega arith
one_bit (suc (suc b)) below = absurd (omega arith)

-- the clear bits below a place and the set ones are all of them
clear_and_set : (k n : ℕ) → failing (has_bit n) k + count_ones (n % 2 ^ k) ≡ k
clear_and_set zero n = let none : count_ones (n % 1) ≤ 0 = ones-le 0 (n % 1) (mod-lt n {m = 1} (lit< tt)) in omega arith
clear_and_set (suc k) n =
    let next : suc k ≡ 1 + k = omega arith in
    let low : n % 2 ^ k < 2 ^ k = mod-lt n {m = 2 ^ k} (pow_pos k) in
    let cut : count_ones (n % 2 ^ suc k) ≡ count_ones (bit_at n k) + count_ones (n % 2 ^ k) =
    ap (λ z. count_ones (n % 2 ^ z)) next ∙ ap count_ones (mod-pow-add n 1 k) ∙ ones_cat k (bit_at n k) (n % 2 ^ k) low in
    let here = one_bit (bit_at n k) (bit_at-lt n k) in
    let below = clear_and_set k n in
    omega arith

-- the mask of the lowest bits
masked : (byte lowest : ℕ) → lowest ≤ 8 → bit_and byte (255 / 2 ^ (8 - lowest)) ≡ byte % 2 ^ lowest
masked byte lowest within =
    let back : 8 - (8 - lowest) ≡ lowest = omega arith in
    ap (bit_and byte) (ones_shr 8 (8 - lowest) (omega arith) ∙ ap (λ k. 2 ^ k - 1) back) ∙ and_mask byte lowest

pub clear_of_mask : (byte lowest : ℕ) → lowest ≤ 8 → clear_bits byte lowest + count_ones (bit_and byte (255 / 2 ^ (8 - lowest))) ≡ lowest
clear_of_mask byte lowest within = ap (λ z. clear_bits byte lowest + count_ones z) (masked byte lowest within) ∙ clear_and_set lowest byte

-- ---- the lowest that is clear

-- the byte with all bits below a place set
abbrev pub filled : ℕ → ℕ → ℕ
filled byte from = bit_or byte (1 * 2 ^ from % 256 - 1)

low_ones : (from : ℕ) → from < 8 → 1 * 2 ^ from % 256 - 1 ≡ 2 ^ from - 1
low_ones from within =
    let below : 2 ^ from < 2 ^ 8 = pow-lt within in
    let same : 2 ^ from % 256 ≡ 2 ^ from = mod-eq_of_lt below in
    omega arith

filled_bit : (byte from i : ℕ) → from < 8 → bit_at (filled byte from) i ≡ max (bit_at byte i) (bit_at (2 ^ from - 1) i)
filled_bit byte from i within = ap (λ z. bit_at (bit_or byte z) i) (low_ones from within) ∙ bit_at_or byte (2 ^ from - 1) i

filled_from : (byte from i : ℕ) → from < 8 → from ≤ i → bit_at (filled byte from) i ≡ bit_at byte i
filled_from byte from i within le =
    let whole = filled_bit byte from i within in
    let none : bit_at (2 ^ from - 1) i ≡ 0 = bit_at_ones_above from i le in
    omega arith

filled_below : (byte from i : ℕ) → from < 8 → i < from → bit_at (filled byte from) i ≡ 1
filled_below byte from i within lt =
    let whole = filled_bit byte from i within in
    let one : bit_at (2 ^ from - 1) i ≡ 1 = bit_at_ones from i lt in
    let bound : bit_at byte i < 2 = bit_at-lt byte i in
    omega arith

pub full_from : (byte from : ℕ) → from < 8 → filled byte from ≡ 255 → AreSetFrom byte from
full_from byte from within full i le lt =
    let one : bit_at byte i ≡ 1 = sym (filled_from byte from i within le) ∙ ap (λ z. bit_at z i) full ∙ bit_at_ones 8 i lt in
    eq-eqb _ _ one

pub lowest_from : (byte from : ℕ) → from < 8 → filled byte from < 255 → IsLowestClearBit byte from (trailing_ones w8 (filled byte from))
lowest_from byte from within below =
    let used : ℕ = filled byte from in
    let place : ℕ = trailing_ones w8 used in
    let found = bit_at-trailing_ones w8 used (omega arith) in
    let clear : bit_at used place ≡ 0 = found.1 in
    let behind : from ≤ place = elim (cases_lt place from) [
      | inl lt ↦ let set : bit_at used place ≡ 1 = filled_below byte from place within lt in absurd (omega arith)
      | inr le ↦ le
    ] in
    record {
      behind = behind;
      within = found.0;
      is_clear = ap (λ z. eqb z 1) (sym (filled_from byte from place within behind) ∙ clear);
      others = λ i le lt. eq-eqb _ _ (sym (filled_from byte from i within le) ∙ found.2 i lt);
    }

-- a byte stays a byte
pub filled_fits : (byte from : ℕ) → byte < 256 → from < 8 → filled byte from < 256
filled_fits byte from fits within =
    let below : 2 ^ from < 2 ^ 8 = pow-lt within in
    or_lt 8 byte _ fits (let same = low_ones from within in omega arith)

-- ---- one bit written

pub set_bit : (byte place : ℕ) → place < 8 → has_bit (bit_or byte (1 * 2 ^ place % 256)) place ≡ true
set_bit byte place within = eq-eqb _ _ (bit_at_set_same w8 byte place within)

pub set_others : (byte place i : ℕ) → place < 8 → i ≢ place → has_bit (bit_or byte (1 * 2 ^ place % 256)) i ≡ has_bit byte i
set_others byte place i within other = ap (λ z. eqb z 1) (bit_at_set_other w8 byte place within i other)

pub cleared_bit : (byte place : ℕ) → place < 8 → has_bit (bit_and byte (255 - 1 * 2 ^ place % 256)) place ≡ false
cleared_bit byte place within = ap (λ z. eqb z 1) (bit_at_clear_same w8 byte place within)

pub cleared_others : (byte place i : ℕ) → place < 8 → i < 8 → i ≢ place → has_bit (bit_and byte (255 - 1 * 2 ^ place % 256)) i ≡ has_bit byte i
cleared_others byte place i within below other = ap (λ z. eqb z 1) (bit_at_clear_other w8 byte place within i below other)
