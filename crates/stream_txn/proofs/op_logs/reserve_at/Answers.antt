use Rattle.std.proofs.Common.{arith, ◌≡◌, ◌<◌, length, get_or, slice_set, vec_items, vec_capacity, sym, ap, ◌∙◌}
use Rattle.stream_txn.specs.Held.{ops_in, places_of, ops_at}
use Rattle.std.proofs.lemmas.Result.{on_ok_weaker}
use Rattle.stream_txn.proofs.Memory.{ops_same, ops_read, none_fell, places_at}
use Rattle.stream_txn.proofs.op_logs.reserve_at.Goals as goal

pub returns-clause-ops : goal.returns-clause-ops
returns-clause-ops c = ops_same c.args.logs.now c.from.result c.reserve.new.self c.index-logs-from.result c.reserve.ensures.items

pub returns-clause-ok : goal.returns-clause-ok
returns-clause-ok c =
    let l : c.from.result < length c.args.logs.now = omega arith in
    let new = slice_set c.args.logs.now c.from.result c.reserve.new.self in
    let m : c.args.stream < length c.args.logs.now = c.requires in
    let same : ops_in new ≡ ops_in c.args.logs.now
    = ops_same c.args.logs.now c.from.result c.reserve.new.self c.index-logs-from.result c.reserve.ensures.items in
    let read : ops_at (ops_in c.args.logs.now) c.args.stream ≡ vec_items (get_or c.args.logs.now c.args.stream c.index-logs-from.result)
    = ops_read c.args.logs.now c.args.stream c.index-logs-from.result m in
    let at : ops_at (ops_in new) c.args.stream ≡ vec_items c.reserve.new.self
    = ap (λ z. ops_at z c.args.stream) same ∙ read ∙ ap (λ z. vec_items (get_or c.args.logs.now z c.index-logs-from.result)) (sym c.from.ensures) ∙ sym c.reserve.ensures.items in
    let places : get_or (places_of new) c.args.stream 0 ≡ vec_capacity c.reserve.new.self
    = places_at c.args.logs.now c.from.result c.args.stream c.reserve.new.self c.from.ensures l in
    on_ok_weaker c.reserve.result (λ k. omega (arith, k, ap length at, c.reserve.new.self.ok.0)) c.reserve.ensures.ok

pub returns-clause-places : goal.returns-clause-places
returns-clause-places c =
    let l : c.from.result < length c.args.logs.now = omega arith in
    none_fell c.args.logs.now c.from.result c.reserve.new.self c.index-logs-from.result l c.reserve.ensures.capacity
