use Rattle.std.proofs.Common.{arith, ◌+◌, ◌≤◌, length}
use Rattle.std.proofs.lemmas.Result.{on_ok_weaker}
use Rattle.stream_txn.specs.Held.{ops_in, places_of, ops_at, number_at}
use Rattle.stream_txn.proofs.op_logs.OpLogs.reserve.Goals as goal

pub returns-clause-ok : goal.returns-clause-ok
returns-clause-ok c =
    on_ok_weaker c.reserve_at.result
    (λ (k : length (ops_at (ops_in c.reserve_at.new.logs) c.args.stream) + c.args.more ≤ number_at (places_of c.reserve_at.new.logs) c.args.stream).
    omega (arith, k)) c.reserve_at.ensures.ok
