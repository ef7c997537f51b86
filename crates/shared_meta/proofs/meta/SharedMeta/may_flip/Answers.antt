use Rattle.std.proofs.Common.{refl}
use Rattle.delta_log.specs.Deltas.{bit_call}
use Rattle.shared_meta.specs.declared.spots.Spot.TheVariants as spots
use Rattle.shared_meta.specs.Area.{area}
use Rattle.shared_meta.proofs.Disturbed.{may_forth, may_back}
use Rattle.shared_meta.proofs.meta.SharedMeta.may_flip.Goals as goal

pub returns-clause-forth : goal.returns-clause-forth
returns-clause-forth c h on =
    may_forth (area c.args.self.now) (bit_call c.args.stream c.args.off c.args.bit on) (spots.Bit c.args.off c.args.bit) (refl, refl) (c.may_act.ensures.forth h)

pub returns-clause-back : goal.returns-clause-back
returns-clause-back c on may =
    c.may_act.ensures.back (may_back (area c.args.self.now) (bit_call c.args.stream c.args.off c.args.bit on) (spots.Bit c.args.off c.args.bit) (refl, refl) may)
