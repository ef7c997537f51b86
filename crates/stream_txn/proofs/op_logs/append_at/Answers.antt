use Rattle.std.proofs.Common.{arith, ◌≡◌, ◌<◌, ◌+◌, ◌≤◌, max, length, get_or, vec_items, vec_capacity, sym, ap, subst}
use Rattle.stream_txn.specs.Held.{ops_in, places_of, ops_at, number_at, HasRoom}
use Rattle.stream_txn.proofs.Memory.{ops_read, places_read, ops_last, none_fell}
use Rattle.stream_txn.proofs.op_logs.append_at.Goals as goal

pub append_or_adopt-requires : goal.append_or_adopt-requires
append_or_adopt-requires c =
    let l : c.from.result < length c.args.logs.now = omega arith in
    let d = c.index-logs-from.result in
    let room : HasRoom (ops_in c.args.logs.now) (places_of c.args.logs.now) c.from.result (length c.args.ops.items)
    = subst (λ z. HasRoom (ops_in c.args.logs.now) (places_of c.args.logs.now) z (length c.args.ops.items)) (sym c.from.ensures) c.requires.room in
    let had : length (ops_at (ops_in c.args.logs.now) c.from.result) + length c.args.ops.items ≤ max (number_at (places_of c.args.logs.now) c.from.result) (length c.args.ops.items) = room in
    let own : ops_at (ops_in c.args.logs.now) c.from.result ≡ vec_items (get_or c.args.logs.now c.from.result d) = ops_read c.args.logs.now c.from.result d l in
    let places : number_at (places_of c.args.logs.now) c.from.result ≡ vec_capacity (get_or c.args.logs.now c.from.result d) = places_read c.args.logs.now c.from.result d l in
    omega (arith, ap length own, c.args.ops.ok.0, (get_or c.args.logs.now c.from.result d).ok.0)

pub returns-clause-ops : goal.returns-clause-ops
returns-clause-ops c =
    let l : c.from.result < length c.args.logs.now = omega arith in
    ops_last c.args.logs.now c.from.result c.args.stream c.append_or_adopt.new.list c.index-logs-from.result c.args.ops.items c.from.ensures l c.append_or_adopt.ensures.items

pub returns-clause-places : goal.returns-clause-places
returns-clause-places c =
    let l : c.from.result < length c.args.logs.now = omega arith in
    none_fell c.args.logs.now c.from.result c.append_or_adopt.new.list c.index-logs-from.result l c.append_or_adopt.ensures.capacity
