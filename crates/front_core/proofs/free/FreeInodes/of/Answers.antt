use Rattle.std.proofs.Common.{◌<◌, get_or, arith, ◌∙◌}
use Rattle.front_core.proofs.Lists.{place_of_one}
use Rattle.front_core.proofs.Taking.{taken_at_first}
use Rattle.front_core.proofs.free.FreeInodes.of.Goals as goal

pub mark_all-requires : goal.mark_all-requires
mark_all-requires c i p =
    let k = place_of_one i c.args.inodes.now p in
    let below : get_or c.args.inodes.now k.0 0 < c.args.count = c.requires k.0 k.1 in
    omega (arith, below, k.2, c.in_ok-taken.ensures.count)

pub returns-clause-taken : goal.returns-clause-taken
returns-clause-taken c t have dense =
    taken_at_first c.args.count c.args.inodes.now t _ have dense (c.mark_all.ensures.count ∙ c.in_ok-taken.ensures.count) c.none_given.ensures
    c.mark_all.ensures.own (λ i p. c.mark_all.ensures.others i p ∙ c.in_ok-taken.ensures.clear i)
