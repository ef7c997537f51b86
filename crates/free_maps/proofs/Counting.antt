-- The free items of a bitmap, counted a byte at a time.
use Rattle.std.proofs.Common.{◌≡◌, ℕ, ◌+◌, ◌-◌, ◌*◌, ◌/◌, ◌%◌, ◌<◌, ◌≤◌, min, List, slice_index, sym, ap, ◌∙◌, arith}
use Rattle.std.proofs.Math.Path.{ap₂}
use Rattle.free_maps.specs.Bits.{has_bit, clear_bits}
use Rattle.free_maps.specs.Maps.{is_set, clear_below}
use Rattle.free_maps.proofs.Failing.{failing-append, failing-same, failing-le}

-- an item of a byte has the bit of that place in it
set_in_byte : (bytes : List ℕ) (at i : ℕ) → i < 8 → is_set bytes (8 * at + i) ≡ has_bit (slice_index bytes at) i
set_in_byte bytes at i within =
    let byte : (8 * at + i) / 8 ≡ at = omega arith in
    let bit : (8 * at + i) % 8 ≡ i = omega arith in
    ap₂ (λ b k. has_bit (slice_index bytes b) k) byte bit

-- what the items before a byte have free, and what those of the byte have
pub count_more : (bytes : List ℕ) (count at : ℕ) → 8 * at < count
    → clear_below bytes (min count (8 * at)) + clear_bits (slice_index bytes at) (min (count - 8 * at) 8) ≡ clear_below bytes (min count (8 * (at + 1)))
count_more bytes count at within =
    let lowest : ℕ = min (count - 8 * at) 8 in
    let start : min count (8 * at) ≡ 8 * at = omega arith in
    let end : min count (8 * (at + 1)) ≡ 8 * at + lowest = omega arith in
    let small : lowest ≤ 8 = omega arith in
    ap (λ z. clear_below bytes z + clear_bits (slice_index bytes at) lowest) start
    ∙ ap (λ z. clear_below bytes (8 * at) + z) (sym (failing-same (λ i. is_set bytes (8 * at + i)) (has_bit (slice_index bytes at)) lowest (λ i h. set_in_byte bytes at i (omega arith))))
    ∙ sym (failing-append (is_set bytes) (8 * at) lowest)
    ∙ ap (clear_below bytes) (sym end)

-- no more items are free than there are
pub clear_below-le : (bytes : List ℕ) (count : ℕ) → clear_below bytes count ≤ count
clear_below-le bytes count = failing-le (is_set bytes) count
