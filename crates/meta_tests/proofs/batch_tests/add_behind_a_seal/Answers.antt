use Rattle.std.proofs.Common.{◌≡◌, ℕ, List, length, sym, subst}
use Rattle.file_bodies.specs.declared.ops.BodyOp.{BodyOp}
use Rattle.stream_txn.specs.Kept.{TxnLists, HasOpRoom, placed}
use Rattle.meta_tests.proofs.batch_tests.add_behind_a_seal.Goals as goal

-- a place in the queue leaves the room
with_place : (old new : TxnLists) (stream count : ℕ) → new ≡ placed old stream → HasOpRoom old stream count → HasOpRoom new stream count
with_place old new stream count is room = subst (λ (t : TxnLists). HasOpRoom t stream count) (sym is) room

pub add-requires-clause-room : goal.add-requires-clause-room
add-requires-clause-room c =
    c.seal-sealed.ensures.room c.args.stream (length c.args.ops) (with_place c.reserve_ops.new.self c.reserve.new.self c.args.stream (length c.args.ops) c.in_ok-reserve.ensures.ok
    (subst (λ (l : List BodyOp). HasOpRoom c.reserve_ops.new.self c.args.stream (length l)) c.all.ensures c.in_ok-reserve_ops.ensures.ok))
