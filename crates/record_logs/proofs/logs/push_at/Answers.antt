use Rattle.std.proofs.Common.{rules, arith, ◌≡◌, ◌<◌, length, slice_set}
use Rattle.record_logs.specs.Held.{recs_of}
use Rattle.record_logs.proofs.Memory.{recs_same, recs_last, none_fell}
use Rattle.record_logs.proofs.logs.push_at.Goals as goal

pub returns-in_err-push-clause-err : goal.returns-in_err-push-clause-err
returns-in_err-push-clause-err c =
    let same : recs_of (slice_set c.args.logs.now c.from.result c.push.new.self) ≡ recs_of c.args.logs.now
    = recs_same c.args.logs.now c.from.result c.push.new.self c.index-logs-from.result c.in_err-push.ensures.items in
    search rules

pub returns-in_err-push-clause-places : goal.returns-in_err-push-clause-places
returns-in_err-push-clause-places c =
    let l : c.from.result < length c.args.logs.now = omega arith in
    none_fell c.args.logs.now c.from.result c.push.new.self c.index-logs-from.result l c.in_err-push.ensures.capacity

pub returns-clause-ok : goal.returns-clause-ok
returns-clause-ok c =
    let l : c.from.result < length c.args.logs.now = omega arith in
    recs_last c.args.logs.now c.from.result c.args.stream c.push.new.self c.index-logs-from.result c.args.rec c.from.ensures l c.in_ok-push.ensures.items

pub returns-clause-places : goal.returns-clause-places
returns-clause-places c =
    let l : c.from.result < length c.args.logs.now = omega arith in
    none_fell c.args.logs.now c.from.result c.push.new.self c.index-logs-from.result l c.in_ok-push.ensures.capacity
