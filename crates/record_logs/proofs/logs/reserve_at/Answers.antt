use Rattle.std.proofs.Common.{arith, ◌≡◌, ◌<◌, length, get_or, slice_set, vec_items, vec_capacity, sym, ap, ◌∙◌}
use Rattle.record_logs.specs.Held.{recs_of, places_of, list_at}
use Rattle.std.proofs.lemmas.Result.{on_ok_weaker}
use Rattle.record_logs.proofs.Memory.{recs_same, recs_read, none_fell, places_at}
use Rattle.record_logs.proofs.logs.reserve_at.Goals as goal

pub returns-clause-recs : goal.returns-clause-recs
returns-clause-recs c = recs_same c.args.logs.now c.from.result c.reserve.new.self c.index-logs-from.result c.reserve.ensures.items

pub returns-clause-ok : goal.returns-clause-ok
returns-clause-ok c =
    let l : c.from.result < length c.args.logs.now = omega arith in
    let new = slice_set c.args.logs.now c.from.result c.reserve.new.self in
    let m : c.args.stream < length c.args.logs.now = c.requires in
    let same : recs_of new ≡ recs_of c.args.logs.now
    = recs_same c.args.logs.now c.from.result c.reserve.new.self c.index-logs-from.result c.reserve.ensures.items in
    let read : list_at (recs_of c.args.logs.now) c.args.stream ≡ vec_items (get_or c.args.logs.now c.args.stream c.index-logs-from.result)
    = recs_read c.args.logs.now c.args.stream c.index-logs-from.result m in
    let at : list_at (recs_of new) c.args.stream ≡ vec_items c.reserve.new.self
    = ap (λ z. list_at z c.args.stream) same ∙ read ∙ ap (λ z. vec_items (get_or c.args.logs.now z c.index-logs-from.result)) (sym c.from.ensures) ∙ sym c.reserve.ensures.items in
    let places : get_or (places_of new) c.args.stream 0 ≡ vec_capacity c.reserve.new.self
    = places_at c.args.logs.now c.from.result c.args.stream c.reserve.new.self c.from.ensures l in
    on_ok_weaker c.reserve.result (λ k. omega (arith, k, ap length at, c.reserve.new.self.ok.0)) c.reserve.ensures.ok

pub returns-clause-places : goal.returns-clause-places
returns-clause-places c =
    let l : c.from.result < length c.args.logs.now = omega arith in
    none_fell c.args.logs.now c.from.result c.reserve.new.self c.index-logs-from.result l c.reserve.ensures.capacity
