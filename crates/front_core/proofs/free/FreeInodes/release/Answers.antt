use Rattle.std.proofs.Common.{◌<◌, [], length, set, ap, ◌∙◌, arith}
use Rattle.front_laws.specs.Inodes.{has}
use Rattle.free_maps.specs.Maps.{is_set}
use Rattle.front_core.specs.Free.{Taken, given_at}
use Rattle.front_core.proofs.Lists.{length-lists}
use Rattle.front_core.proofs.Taking.{taken_released}
use Rattle.front_core.proofs.free.FreeInodes.release.Goals as goal

pub returns-clause-taken : goal.returns-clause-taken
returns-clause-taken c count inodes t unsealed owned are =
    let s = c.args.stream in
    let within : s < length c.args.self.now.given
    = omega (arith, length-lists c.self.inside.given, ap (λ (z : Taken). length z.given) c.self.view_is, c.requires) in
    taken_released count inodes t unsealed c.args.self.now owned are s _ c.requires within
    (c.free_at.ensures.count ∙ ap (λ (z : Taken). z.count) c.self.view_is)
    (c.clear_at.ensures.lists ∙ ap (λ (z : Taken). set z.given s []) c.self.view_is)
    (λ i p. c.free_at.ensures.own i (ap (λ (z : Taken). has i (given_at z s)) c.self.view_is ∙ p))
    (λ i p. c.free_at.ensures.others i (ap (λ (z : Taken). has i (given_at z s)) c.self.view_is ∙ p) ∙ ap (λ (z : Taken). is_set z.bits i) c.self.view_is)
