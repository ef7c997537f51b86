use Rattle.std.proofs.Common.{rules, arith, ◌≡◌, ◌<◌, ℕ, length, get_or}
use Rattle.stream_txn.specs.declared.accounts.Account.{Account}
use Rattle.stream_txn.specs.Accounts.{no_account}
use Rattle.stream_txn.proofs.Sums.{all_none}
use Rattle.stream_txn.proofs.accounts.no_accounts.Goals as goal

pub returns : goal.returns
returns c =
    let each : (k : ℕ) (d : Account) → k < 64 → get_or c.from_fn.result k d ≡ no_account
    = λ k d l. let called = c.from_fn.ensures.items.at k d l in search (rules, called.2) in
    λ stream. all_none c.from_fn.result stream (λ (k : ℕ) (d : Account) (l : k < length c.from_fn.result). each k d (omega (arith, c.from_fn.ensures.items.long)))
