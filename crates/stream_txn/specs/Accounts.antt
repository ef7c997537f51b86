-- The sums over the updates that are not sealed.
use Rattle.std.specs.Prelude.{◌≡◌, ℕ, ◌+◌, true, false, List, slice_index_or}
use Rattle.file_bodies.specs.declared.ops.BodyOp.{BodyOp}
use Rattle.stream_txn.specs.declared.accounts.Account.{Account}
use Rattle.stream_txn.specs.declared.updates.Unsealed.{Unsealed}
use Rattle.stream_txn.specs.Updates.{of_stream, has_any, weight_of, blocks_of, rows_of, ops_of}
use Rattle.stream_txn.specs.Held.{ops_at}

-- the sums over no updates
abbrev pub no_account : Account
no_account = record { is_open = false; weight = 0; gave_blocks = 0; gave_rows = 0 }

-- the sums of a stream, and those over no updates past the last stream
abbrev pub account_at : List Account → ℕ → Account
account_at accounts stream = slice_index_or accounts stream no_account

-- the sums with one more update
abbrev pub raised : Account → ℕ → ℕ → ℕ → Account
raised account weight blocks rows = record {
  is_open = true;
  weight = account.weight + weight;
  gave_blocks = account.gave_blocks + blocks;
  gave_rows = account.gave_rows + rows;
}

-- A stream's sums and operations are those of these updates.
pub record IsSumOf (account : Account) (log : List BodyOp) (updates : List Unsealed) : Type 0 where
  pub is_open : account.is_open ≡ has_any updates
  pub weight : account.weight ≡ weight_of updates
  pub gave_blocks : account.gave_blocks ≡ blocks_of updates
  pub gave_rows : account.gave_rows ≡ rows_of updates
  pub ops : log ≡ ops_of updates

-- The sums and operations of each stream are those of its updates, and the totals are sums over all.
pub record AreSumsOf (accounts : List Account) (ops : List (List BodyOp)) (blocks rows : ℕ) (unsealed : List Unsealed) : Type 0 where
  pub own : (stream : ℕ) → IsSumOf (account_at accounts stream) (ops_at ops stream) (of_stream stream unsealed)
  pub gave_blocks : blocks ≡ blocks_of unsealed
  pub gave_rows : rows ≡ rows_of unsealed
