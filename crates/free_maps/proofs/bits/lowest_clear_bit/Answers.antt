use Rattle.std.proofs.Common.{◌<◌, ℕ, subst, sym, arith}
use Rattle.std.proofs.Math.Facts.{Fits-lt-pow}
use Rattle.free_maps.specs.Bits.{IsLowestClearBit}
use Rattle.free_maps.proofs.OneByte.{filled, full_from, lowest_from, filled_fits}
use Rattle.free_maps.proofs.bits.lowest_clear_bit.Goals as goal

pub returns-then-used : goal.returns-then-used
returns-then-used c = full_from c.args.byte c.args.from c.requires c.if-used.true

pub returns-else-used : goal.returns-else-used
returns-else-used c =
    let byte : ℕ = c.args.byte in
    let from : ℕ = c.args.from in
    let fits : filled byte from < 256 = filled_fits byte from (Fits-lt-pow c.ranges.byte) c.requires in
    let P : ℕ → Type 0 = λ place. IsLowestClearBit byte from place in
    subst P (sym c.trailing_ones.ensures) (lowest_from byte from c.requires (omega (arith, c.if-used.false)))
