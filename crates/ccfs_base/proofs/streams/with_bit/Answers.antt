use Rattle.std.proofs.Common.{◌==◌, w64, sym, ap, ◌∙◌}
use Rattle.std.proofs.lemmas.Nat.Bits.{bit_at_set_same, bit_at_set_other}
use Rattle.ccfs_base.proofs.streams.with_bit.Goals as goal

pub returns-then-on-clause-own : goal.returns-then-on-clause-own
returns-then-on-clause-own c = ap (λ z. z == 1) (bit_at_set_same w64 c.args.bits c.args.stream c.requires.stream) ∙ sym c.if-on.true

pub returns-then-on-clause-others : goal.returns-then-on-clause-others
returns-then-on-clause-others c s apart = ap (λ z. z == 1) (bit_at_set_other w64 c.args.bits c.args.stream c.requires.stream s apart)
