use Rattle.std.proofs.Common.{arith}
use Rattle.free_maps.proofs.OneByte.{clear_of_mask}
use Rattle.free_maps.proofs.bits.clear_bits.Goals as goal

pub overflow_sub-result-2 : goal.overflow_sub-result-2
overflow_sub-result-2 c = omega (arith, clear_of_mask c.args.byte c.args.lowest c.requires.within)

pub returns : goal.returns
returns c = omega (arith, clear_of_mask c.args.byte c.args.lowest c.requires.within)
