use Rattle.std.proofs.Common.{sym, subst}
use Rattle.shared_meta.specs.Area.{AreaLists, area}
use Rattle.shared_meta.specs.Spots.{IsFreeSpot}
use Rattle.shared_meta.proofs.meta.SharedMeta.may_act.Goals as goal

pub returns-then-lies_in-clause-back : goal.returns-then-lies_in-clause-back
returns-then-lies_in-clause-back c may =
    c.is_free.ensures.back (subst (λ (k : AreaLists). IsFreeSpot (area k).ranges (area k).deltas c.args.stream c.args.spot) (sym c.self.view_is) may.free)
