use Rattle.std.proofs.Common.{sym, ◌∙◌}
use Rattle.free_maps.proofs.OneByte.{set_bit, set_others, cleared_bit, cleared_others}
use Rattle.free_maps.proofs.bits.with_bit.Goals as goal

pub returns-then-on-clause-bit : goal.returns-then-on-clause-bit
returns-then-on-clause-bit c = set_bit c.args.byte c.args.place c.requires ∙ sym c.if-on.true

pub returns-then-on-clause-others : goal.returns-then-on-clause-others
returns-then-on-clause-others c = λ i below other. set_others c.args.byte c.args.place i c.requires other

pub returns-else-on-clause-bit : goal.returns-else-on-clause-bit
returns-else-on-clause-bit c = cleared_bit c.args.byte c.args.place c.requires ∙ sym c.if-on.false

pub returns-else-on-clause-others : goal.returns-else-on-clause-others
returns-else-on-clause-others c = λ i below other. cleared_others c.args.byte c.args.place i c.requires below other
