use Rattle.std.proofs.Common.{arith, ◌<◌, length}
use Rattle.record_logs.proofs.Memory.{recs_last, none_fell}
use Rattle.record_logs.proofs.logs.use_at.Goals as goal

pub returns-clause-recs : goal.returns-clause-recs
returns-clause-recs c =
    let l : c.from.result < length c.args.logs.now = omega arith in
    recs_last c.args.logs.now c.from.result c.args.call.stream c.push_or_move.new.list c.index-logs-from.result c.args.call.rec c.from.ensures l c.push_or_move.ensures.items

pub returns-clause-places : goal.returns-clause-places
returns-clause-places c =
    let l : c.from.result < length c.args.logs.now = omega arith in
    none_fell c.args.logs.now c.from.result c.push_or_move.new.list c.index-logs-from.result l c.push_or_move.ensures.capacity
