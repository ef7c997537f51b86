-- What is kept of the unsealed updates. The comments share an example: stream 1 made `/a` with the serial 1, whose inode is 5, and it
-- isn't sealed.
use Rattle.std.specs.Prelude.{◌≡◌, ℕ, ◌+◌, ◌<◌, ◌^◌, true, List, ◌++◌, length, map, reverse}
use Rattle.stream_cuts.specs.Streams.{Seal, unsealed_after}
use Rattle.shared_meta.specs.Area.{area}
use Rattle.stream_txn.specs.declared.updates.Unsealed.{Unsealed}
use Rattle.stream_txn.specs.Accounts.{account_at}
use Rattle.stream_txn.specs.Kept.{AreTxnsOf, IsOpRoomKept, has_place}
use Rattle.cross_dep.specs.Books.{Call, IsBookOf, IsRoomKept}
use Rattle.tree_model.specs.Rows.{Rows}
use Rattle.tree_cuts.specs.Calls.{Charged}
use Rattle.update_records.specs.Operations.{ops_of}
use Rattle.front_laws.specs.Batches.{sealed_in}
use Rattle.front_laws.specs.Owned.{AreOwned}
use Rattle.front_laws.specs.Logging.{metadata_size, AreLogsOf}
use Rattle.front_core.specs.Free.{AreTaken}
use Rattle.front_core.specs.declared.pending.Pending.{Pending}

-- an unsealed update as the transactions keep it: of `/a` in stream 1 with the weight 512 and no operations
abbrev pub txn_of : List ℕ → ℕ × Charged → Unsealed
txn_of inodes e = record { stream = e.0; weight = e.1.1.weight; gave_blocks = e.1.1.gave_blocks; gave_rows = e.1.1.gave_rows; ops = ops_of inodes e.1.0 }

-- unsealed updates, which come the last first, as the transactions keep them, the first first
abbrev pub txns_of : List ℕ → List (ℕ × Charged) → List Unsealed
txns_of inodes unsealed = map (txn_of inodes) (reverse unsealed)

-- an unsealed update as the book keeps it: its stream and the update, without what it was charged
abbrev pub noted : ℕ × Charged → Call
noted e = (e.0, e.1.0)

-- all of them, the first first
abbrev pub all_noted : List (ℕ × Charged) → List Call
all_noted unsealed = map noted (reverse unsealed)

-- Each part keeps just these unsealed updates, in an image of so many inodes: the logs have their records, on an area of the
-- metadata's size, the transactions their sums and operations, the book their keys, and the free inodes leave theirs out.
pub record IsPendingOf (count : ℕ) (inodes : List ℕ) (t : Rows) (unsealed : List (ℕ × Charged)) (p : Pending) : Type 0 where
  pub logs : AreLogsOf count inodes (area p.meta) unsealed
  pub sized : length p.meta.base ≡ metadata_size count
  pub txns : AreTxnsOf p.txns (txns_of inodes unsealed)
  pub book : IsBookOf p.keys (all_noted unsealed)
  pub taken : AreTaken count inodes t unsealed p.free

-- the transactions are those of some updates
abbrev pub IsHeld : Pending → Type 0
IsHeld p = (updates : List Unsealed) × AreTxnsOf p.txns updates

-- A stream has an unsealed update, and a place for its batch.
pub record IsDue (p : Pending) (s : ℕ) : Type 0 where
  pub open_ : (account_at p.txns.accounts s).is_open ≡ true
  pub log : (area p.meta).places s ≡ true
  pub batch : has_place p.txns s ≡ true

-- Only rooms and places may be others than before.
pub record IsAsBefore (old new : Pending) : Type 0 where
  pub kept : (count : ℕ) (inodes : List ℕ) (t : Rows) (unsealed : List (ℕ × Charged)) → IsPendingOf count inodes t unsealed old → IsPendingOf count inodes t unsealed new
  pub held : (updates : List Unsealed) → AreTxnsOf old.txns updates → AreTxnsOf new.txns updates
  pub accounts : new.txns.accounts ≡ old.txns.accounts
  pub queue : new.txns.queue ≡ old.txns.queue
  pub seals : new.txns.seals ≡ old.txns.seals

-- The room of the logs is as before, the transactions and the book have room for no less, and the free inodes have the same places.
pub record IsSameRoom (old new : Pending) : Type 0 where
  pub meta : new.meta.room ≡ old.meta.room
  pub txns : IsOpRoomKept old.txns new.txns
  pub keys : IsRoomKept old.keys new.keys
  pub places : new.free.places ≡ old.free.places
  pub count : new.free.count ≡ old.free.count

-- These streams were sealed, one after the other, and their batches stand last in the queue.
pub record AreSealed (old : Pending) (streams : List ℕ) (new : Pending) : Type 0 where
  pub kept : (count : ℕ) (inodes : List ℕ) (t : Rows) (unsealed : List (ℕ × Charged)) → AreOwned inodes t unsealed → IsPendingOf count inodes t unsealed old
      → IsPendingOf count inodes t (unsealed_after unsealed (map Seal streams)) new
  pub queue : (count : ℕ) (inodes : List ℕ) (t : Rows) (unsealed : List (ℕ × Charged)) → AreOwned inodes t unsealed → IsPendingOf count inodes t unsealed old
      → old.txns.seals + length streams < 2 ^ 64
      → new.txns.queue ≡ old.txns.queue ++ sealed_in count inodes old.txns.seals unsealed (map Seal streams)
  pub seals : old.txns.seals + length streams < 2 ^ 64 → new.txns.seals ≡ old.txns.seals + length streams
  pub room : IsSameRoom old new
