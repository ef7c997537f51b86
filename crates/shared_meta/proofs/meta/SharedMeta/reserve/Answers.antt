use Rattle.std.proofs.Common.{◌≡◌, ◌<◌, length, subst, arith, Some, set}
use Rattle.shared_meta.specs.Area.{AreaLists, area, IsPlaced}
use Rattle.shared_meta.specs.Held.{kept_in}
use Rattle.shared_meta.proofs.EachCall.{placed_in}
use Rattle.shared_meta.proofs.meta.SharedMeta.reserve.Goals as goal

pub returns-clause-ok : goal.returns-clause-ok
returns-clause-ok c =
    let long : length c.self.inside.places ≡ 64 = omega arith in
    let h : c.args.stream < length c.self.inside.places = omega (arith, c.requires) in
    subst (λ (k : AreaLists). IsPlaced (area k) c.args.stream (area (kept_in c.self.inside.base.items c.self.inside.logs (set c.self.inside.places c.from.result (Some c.in_ok-place.field-0))))) c.self.view_is
    (placed_in c.self.inside.base.items c.self.inside.logs c.self.inside.places c.from.result c.args.stream c.in_ok-place.field-0 c.from.ensures h)
