use Rattle.stream_txn.specs.Accounts.{account_at}
use Rattle.cross_dep.proofs.Told.{TellsBelow}
use Rattle.front_core.proofs.pending.Pending.open_streams.Given as goal

abbrev pub invariant-loop-stream : goal.invariant-loop-stream
invariant-loop-stream l = TellsBelow l.streams l.stream (λ s. (account_at l.self.txns.accounts s).is_open)
