use Rattle.std.proofs.Common.{◌≡◌, ◌≤◌, ℕ, get_or, arith, refl}
use Rattle.block_maps.specs.Uses.{new_count}
use Rattle.late_alloc.specs.declared.changes.Reach.{Reach}
use Rattle.late_alloc.proofs.Counting.{no_reach, new_count_few, news_step}
use Rattle.late_alloc.proofs.plans.needed.Goals as goal

pub loop-reach-preserved : goal.loop-reach-preserved
loop-reach-preserved c =
    let i : ℕ = c.loop-reach.reach-index in
    let reach : Reach = get_or c.args.reaches.now i no_reach in
    let e : c.new_count-need.result ≡ new_count reach.least reach.end = c.new_count-need.ensures in
    let few : new_count reach.least reach.end ≤ 1049 = new_count_few reach.least reach.end (c.requires.ends i no_reach c.loop-reach-test.true) in
    let step = news_step c.args.reaches.now i c.loop-reach.need reach c.loop-reach-test.true refl c.loop-reach.invariant.count in
    record {
      count = omega arith;
      few = omega arith;
    }
