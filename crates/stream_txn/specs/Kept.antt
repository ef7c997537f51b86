-- What is kept of the updates that are not sealed, as a contract sees it.
use Rattle.std.specs.Prelude.{◌≡◌, ℕ, ◌≢◌, ◌+◌, ◌-◌, ◌%◌, ◌^◌, Option, None, Some, Bool, true, false, List, [], ◌∷◌, slice_index_or, slice_set}
use Rattle.ccfs_base.specs.declared.records.Rec.{Rec}
use Rattle.file_bodies.specs.declared.ops.BodyOp.{BodyOp}
use Rattle.file_bodies.specs.declared.batches.Sealed.{Sealed}
use Rattle.stream_txn.specs.declared.accounts.Account.{Account}
use Rattle.stream_txn.specs.declared.updates.Unsealed.{Unsealed}
use Rattle.stream_txn.specs.Updates.{weight_of, ops_of}
use Rattle.stream_txn.specs.Held.{HasRoom}
use Rattle.stream_txn.specs.Accounts.{account_at, AreSumsOf}

-- The sums, the operations and whether there is a place in the queue, by streams, stream 0 first; the totals over all streams;
-- how many batches were sealed; the batches that wait; and how many operations the memory of each stream has places for.
pub record TxnLists : Type 0 where
  pub accounts : List Account
  pub ops : List (List BodyOp)
  pub places : List Bool
  pub gave_blocks : ℕ
  pub gave_rows : ℕ
  pub seals : ℕ
  pub queue : List Sealed
  pub spaces : List ℕ

-- these are the updates that are not sealed, in their order: the sums and operations that are kept are theirs
abbrev pub AreTxnsOf : TxnLists → List Unsealed → Type 0
AreTxnsOf kept unsealed = AreSumsOf kept.accounts kept.ops kept.gave_blocks kept.gave_rows unsealed

-- whether a stream has a place in the queue
abbrev pub has_place : TxnLists → ℕ → Bool
has_place kept stream = slice_index_or kept.places stream false

-- how many blocks the updates gave up that are not sealed, without those of the stream that is named, if one is
abbrev pub blocks_but : TxnLists → Option ℕ → ℕ
blocks_but kept None = kept.gave_blocks
blocks_but kept (Some stream) = kept.gave_blocks - (account_at kept.accounts stream).gave_blocks

-- the same for rows
abbrev pub rows_but : TxnLists → Option ℕ → ℕ
rows_but kept None = kept.gave_rows
rows_but kept (Some stream) = kept.gave_rows - (account_at kept.accounts stream).gave_rows

-- what is kept, with a place in the queue for a stream
abbrev pub placed : TxnLists → ℕ → TxnLists
placed kept stream = record kept { places = slice_set kept.places stream true }

-- the same with other memory for the operations
abbrev pub roomed : TxnLists → List ℕ → TxnLists
roomed kept spaces = record kept { spaces = spaces }

-- a stream has room for an update with so many operations
abbrev pub HasOpRoom : TxnLists → ℕ → ℕ → Type 0
HasOpRoom kept stream count = HasRoom kept.ops kept.spaces stream count

-- each stream has room for all updates that it had room for
abbrev pub IsOpRoomKept : TxnLists → TxnLists → Type 0
IsOpRoomKept old new = (stream count : ℕ) → HasOpRoom old stream count → HasOpRoom new stream count

-- the same but for one stream
abbrev pub IsOpRoomKeptBut : TxnLists → ℕ → TxnLists → Type 0
IsOpRoomKeptBut old but new = (stream count : ℕ) → stream ≢ but → HasOpRoom old stream count → HasOpRoom new stream count

-- the same with no batches that wait
abbrev pub handed_out : TxnLists → TxnLists
handed_out kept = record kept { queue = [] }

-- the number behind another: 1 behind 0, and 0 behind 2 ^ 64 - 1
abbrev pub next : ℕ → ℕ
next number = (number + 1) % 2 ^ 64

-- the batch of a stream's updates, with what they change in the metadata
abbrev pub batch_of : ℕ → ℕ → List Rec → List Unsealed → Sealed
batch_of stream number recs updates = record { stream = stream; number = number; weight = weight_of updates; recs = recs; ops = ops_of updates }

-- the numbers of the batches follow a first one in order, and end with a last: 6 and 7 do so from 5 to 7
abbrev pub AreInOrder : ℕ → List Sealed → ℕ → Type 0
AreInOrder first [] last = first ≡ last
AreInOrder first (batch ∷ rest) last = (batch.number ≡ next first) × AreInOrder batch.number rest last
