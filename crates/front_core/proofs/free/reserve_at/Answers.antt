use Rattle.std.proofs.Common.{arith, ◌<◌, length, ap}
use Rattle.std.proofs.lemmas.Result.{on_ok_weaker}
use Rattle.front_core.proofs.Lists.{lists_same, lists_now, places_now}
use Rattle.front_core.proofs.free.reserve_at.Goals as goal

pub returns-clause-lists : goal.returns-clause-lists
returns-clause-lists c = lists_same c.args.given.now c.from.result c.reserve.new.self c.index-given-from.result c.reserve.ensures.items

pub returns-clause-ok : goal.returns-clause-ok
returns-clause-ok c =
    let l : c.from.result < length c.args.given.now = omega arith in
    let list = lists_now c.args.given.now c.from.result c.args.stream c.reserve.new.self c.from.ensures l in
    let places = places_now c.args.given.now c.from.result c.args.stream c.reserve.new.self c.from.ensures l in
    on_ok_weaker c.reserve.result (λ k. omega (arith, k, ap length list, places, c.reserve.new.self.ok.0)) c.reserve.ensures.ok
