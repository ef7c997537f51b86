use Rattle.std.proofs.Common.{sym, subst}
use Rattle.stream_txn.specs.Kept.{TxnLists, HasOpRoom}
use Rattle.stream_txn.proofs.Room.{room_grown}
use Rattle.stream_txn.proofs.txns.Txns.reserve_ops.Goals as goal

pub returns-clause-kept : goal.returns-clause-kept
returns-clause-kept c = λ s count h.
    room_grown c.self.inside.ops.logs c.reserve.new.self.logs c.self.inside.ops.spaces c.reserve.new.self.spaces c.reserve.ensures.ops c.reserve.ensures.places s count
    (subst (λ (k : TxnLists). HasOpRoom k s count) (sym c.self.view_is) h)
