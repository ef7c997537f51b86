use Rattle.std.proofs.Common.{ℕ, arith, ◌<◌, length, subst}
use Rattle.stream_txn.specs.Held.{KeptOps, ops_in, places_of, HasRoom}
use Rattle.stream_txn.proofs.Memory.{length-ops}
use Rattle.stream_txn.proofs.Room.{room_taken}
use Rattle.stream_txn.proofs.op_logs.OpLogs.take.Goals as goal

pub returns-clause-room : goal.returns-clause-room
returns-clause-room c =
    let l : c.args.stream < length (ops_in c.self.inside.logs) = omega (arith, length-ops c.self.inside.logs) in
    subst (λ (z : KeptOps). (s count : ℕ) → HasRoom z.logs z.spaces s count → HasRoom (ops_in c.take_at.new.logs) (places_of c.take_at.new.logs) s count) c.self.view_is
    (room_taken (ops_in c.self.inside.logs) (ops_in c.take_at.new.logs) (places_of c.self.inside.logs) (places_of c.take_at.new.logs) c.args.stream l c.take_at.ensures.left c.take_at.ensures.places)
