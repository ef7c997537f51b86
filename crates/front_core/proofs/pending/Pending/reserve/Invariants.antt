use Rattle.std.proofs.Common.{◌≡◌, ℕ, ◌<◌, true}
use Rattle.stream_txn.specs.Accounts.{account_at}
use Rattle.cross_dep.specs.Books.{has_bit}
use Rattle.front_core.specs.Pending.{IsAsBefore, IsDue}
use Rattle.front_core.proofs.pending.Pending.reserve.Given as goal

abbrev pub invariant-loop-stream : goal.invariant-loop-stream
invariant-loop-stream l = record {
  same : IsAsBefore l.fn.self l.self;
  placed : (s : ℕ) → s < l.stream → has_bit l.sealed s ≡ true → (account_at l.fn.self.txns.accounts s).is_open ≡ true → IsDue l.self s;
}
