use Rattle.std.proofs.Common.{◌<◌, ◌+◌, ◌++◌, ◌∷◌, [], length, refl, sym, ap, subst, arith, vec_capacity}
use Rattle.std.proofs.lemmas.List.{length-set}
use Rattle.stream_txn.specs.Updates.{update_of}
use Rattle.stream_txn.specs.Held.{ops_at}
use Rattle.stream_txn.specs.Kept.{TxnLists, AreTxnsOf, HasOpRoom}
use Rattle.stream_txn.specs.Space.{kept_in}
use Rattle.stream_txn.proofs.Sums.{added, part_of_all}
use Rattle.stream_txn.proofs.Room.{room_added}
use Rattle.stream_txn.proofs.Holding.{held_added}
use Rattle.stream_txn.proofs.txns.Txns.add.Goals as goal

pub add-requires-clause-room : goal.add-requires-clause-room
add-requires-clause-room c = subst (λ (k : TxnLists). HasOpRoom k c.args.stream (length c.args.ops)) (sym c.self.view_is) c.requires.room

pub raise-requires-clause-blocks : goal.raise-requires-clause-blocks
raise-requires-clause-blocks c =
    let part = part_of_all c.self.inside.accounts c.self.inside.ops.logs c.self.inside.gave_blocks c.self.inside.gave_rows c.self.invariant.sums.0 c.args.stream c.self.invariant.sums.1 in
    omega (arith, part.0, c.requires.blocks, ap (λ (k : TxnLists). k.gave_blocks) c.self.view_is)

pub raise-requires-clause-rows : goal.raise-requires-clause-rows
raise-requires-clause-rows c =
    let part = part_of_all c.self.inside.accounts c.self.inside.ops.logs c.self.inside.gave_blocks c.self.inside.gave_rows c.self.invariant.sums.0 c.args.stream c.self.invariant.sums.1 in
    omega (arith, part.1, c.requires.rows, ap (λ (k : TxnLists). k.gave_rows) c.self.view_is)

pub invariant_of-self : goal.invariant_of-self
invariant_of-self c =
    let update = update_of c.args.stream c.args.weight c.args.gave_blocks c.args.gave_rows c.args.ops in
    let accounts : c.args.stream < length c.self.inside.accounts = omega arith in
    let logs : c.args.stream < length c.self.inside.ops.logs = omega (arith, c.self.invariant.streams) in
    let unsealed = c.self.invariant.sums.0 in
    held_added (kept_in c.self.inside.accounts c.self.inside.gave_blocks c.self.inside.gave_rows c.self.inside.ops c.self.inside.places c.self.inside.seals c.self.inside.queue.items)
    (kept_in c.raise.new.accounts (c.self.inside.gave_blocks + c.args.gave_blocks) (c.self.inside.gave_rows + c.args.gave_rows) c.add.new.self c.self.inside.places c.self.inside.seals
    c.self.inside.queue.items)
    c.self.inside.places (vec_capacity c.self.inside.queue) c.self.invariant (unsealed ++ update ∷ [])
    (added c.self.inside.accounts c.raise.new.accounts c.self.inside.ops.logs c.add.new.self.logs c.self.inside.gave_blocks c.self.inside.gave_rows unsealed update accounts logs
    c.raise.ensures c.add.ensures.ops c.self.invariant.sums.1)
    (omega (arith, c.self.invariant.streams, ap length c.add.ensures.ops, length-set c.self.inside.ops.logs c.args.stream (ops_at c.self.inside.ops.logs c.args.stream ++ c.args.ops)))
    refl refl refl

pub returns-clause-txns : goal.returns-clause-txns
returns-clause-txns c = λ unsealed sums.
    let update = update_of c.args.stream c.args.weight c.args.gave_blocks c.args.gave_rows c.args.ops in
    let accounts : c.args.stream < length c.self.inside.accounts = omega arith in
    let logs : c.args.stream < length c.self.inside.ops.logs = omega (arith, c.self.invariant.streams) in
    added c.self.inside.accounts c.raise.new.accounts c.self.inside.ops.logs c.add.new.self.logs c.self.inside.gave_blocks c.self.inside.gave_rows unsealed update accounts logs
    c.raise.ensures c.add.ensures.ops (subst (λ (k : TxnLists). AreTxnsOf k unsealed) (sym c.self.view_is) sums)

pub returns-clause-room : goal.returns-clause-room
returns-clause-room c = λ s count n h.
    room_added c.self.inside.ops.logs c.add.new.self.logs c.self.inside.ops.spaces c.add.new.self.spaces c.args.stream c.args.ops c.add.ensures.ops c.add.ensures.places s count n
    (subst (λ (k : TxnLists). HasOpRoom k s count) (sym c.self.view_is) h)
