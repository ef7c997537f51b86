use Rattle.std.proofs.Common.{refl, sym}
use Rattle.range_log.specs.Ranges.{range_call}
use Rattle.shared_meta.specs.declared.spots.Spot.TheVariants as spots
use Rattle.shared_meta.specs.Area.{area}
use Rattle.shared_meta.proofs.Disturbed.{may_forth, may_back}
use Rattle.shared_meta.proofs.meta.SharedMeta.may_put.Goals as goal

pub returns-clause-forth : goal.returns-clause-forth
returns-clause-forth c h bytes e =
    may_forth (area c.args.self.now) (range_call c.args.stream c.args.off bytes) (spots.Range c.args.off c.args.len) (refl, sym e) (c.may_act.ensures.forth h)

pub returns-clause-back : goal.returns-clause-back
returns-clause-back c bytes e may =
    c.may_act.ensures.back (may_back (area c.args.self.now) (range_call c.args.stream c.args.off bytes) (spots.Range c.args.off c.args.len) (refl, sym e) may)
