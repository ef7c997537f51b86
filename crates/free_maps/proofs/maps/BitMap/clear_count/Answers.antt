use Rattle.std.proofs.Common.{◌≡◌, ◌+◌, ◌-◌, ◌*◌, ◌<◌, ℕ, List, length, slice_index, ◌∙◌, min, arith}
use Rattle.std.proofs.Math.Path.{ap₂}
use Rattle.std.proofs.lemmas.List.{get_or_read}
use Rattle.free_maps.specs.Bits.{clear_bits}
use Rattle.free_maps.specs.Maps.{clear_below}
use Rattle.free_maps.proofs.Counting.{count_more, clear_below-le}
use Rattle.free_maps.proofs.maps.BitMap.clear_count.Goals as goal

pub loop-at-preserved : goal.loop-at-preserved
loop-at-preserved c =
    let at : ℕ = c.loop-at.at in
    let bytes : List ℕ = c.self.inside.bits.items in
    let count : ℕ = c.self.inside.items in
    let within : 8 * at < count = omega arith in
    let inside : at < length bytes = omega arith in
    let byte : c.index.result.now ≡ slice_index bytes at = get_or_read bytes at c.index.result.now inside c.index.ensures 0 in
    let here : c.clear_bits-clear.result ≡ clear_bits (slice_index bytes at) (min (count - 8 * at) 8) = c.clear_bits-clear.ensures ∙ ap₂ clear_bits byte c.min-lowest.ensures in
    ap₂ (λ a b. a + b) c.loop-at.invariant here ∙ count_more bytes count at within

pub overflow_add-clear : goal.overflow_add-clear
overflow_add-clear c =
    let bytes : List ℕ = c.self.inside.bits.items in
    let counted : ℕ = min c.self.inside.items (8 * (c.loop-at.at + 1)) in
    let sum : c.loop-at.clear + c.clear_bits-clear.result ≡ clear_below bytes counted = loop-at-preserved c in
    let most = clear_below-le bytes counted in
    omega arith
