-- An update that is about to enter a stream, for which the memory was taken.
use Rattle.std.specs.Prelude.{◌≡◌, ℕ, ◌+◌, ◌^◌, ◌<◌, true, List, ◌∷◌, length, slice_index_or}
use Rattle.shared_meta.specs.Area.{area}
use Rattle.tree_model.specs.declared.rows.Update.{Update}
use Rattle.tree_model.specs.Rows.{Rows, IsTree}
use Rattle.tree_model.specs.Updates.{apply, Fits}
use Rattle.tree_cuts.specs.Calls.{Charge, Charged}
use Rattle.stream_txn.specs.Accounts.{account_at}
use Rattle.stream_txn.specs.Kept.{HasOpRoom}
use Rattle.cross_dep.specs.Books.{HasRoom}
use Rattle.carried_volumes.specs.Carried.{HaveInodes}
use Rattle.update_records.specs.Built.{is_built}
use Rattle.update_records.specs.Operations.{ops_of}
use Rattle.front_laws.specs.Batches.{its_records}
use Rattle.front_laws.specs.Inodes.{dropped}
use Rattle.front_laws.specs.Logging.{MayLogAll}
use Rattle.front_laws.specs.Owned.{AreOwned}
use Rattle.front_core.specs.Free.{MakesTheLast, given_at}
use Rattle.front_core.specs.Logged.{calls_of}
use Rattle.front_core.specs.Pending.{IsPendingOf}
use Rattle.front_core.specs.declared.pending.Pending.{Pending}
use Rattle.front_core.specs.declared.pending.Entering.{Entering}

-- The room of the logs is that of the update alone. The transactions have room for its operations, the book for one more update of its
-- stream, and there is a place for an inode that it gives up.
pub record IsReadyFor (e : Entering) (p : Pending) : Type 0 where
  pub meta : p.meta.room ≡ calls_of e.stream e.recs
  pub txns : HasOpRoom p.txns e.stream (length e.ops)
  pub keys : HasRoom p.keys e.stream 1
  pub place : length (given_at p.free e.stream) < slice_index_or p.free.places e.stream 0

-- what an update is charged while files are empty: 512, no block, and these rows
abbrev pub weight_kept : Charge → ℕ → Type 0
weight_kept cost rows = cost ≡ record { weight = 512; gave_blocks = 0; gave_rows = rows }

-- it is that update, as its stream keeps it in an image of so many inodes
pub record IsEnteringOf (count : ℕ) (inodes : List ℕ) (stream : ℕ) (u : Update) (e : Entering) : Type 0 where
  pub stream_ : e.stream ≡ stream
  pub rows : e.gave_rows ≡ length (dropped u)
  pub recs : e.recs ≡ its_records count inodes u
  pub ops : e.ops ≡ ops_of inodes u

-- It may enter: the sums of the unsealed updates have room for it, and its records may be logged.
pub record MayEnter (e : Entering) (p : Pending) : Type 0 where
  pub weight : (account_at p.txns.accounts e.stream).weight + 512 < 2 ^ 32
  pub blocks : p.txns.gave_blocks < 2 ^ 32
  pub rows : p.txns.gave_rows + e.gave_rows < 2 ^ 32
  pub logged : MayLogAll (area p.meta) e.stream e.recs

-- It entered: where it is the update of its stream that it tells, and a new row has a free inode, it is the last of those that are kept.
pub record HasEntered (e : Entering) (u : Update) (inodes : List ℕ) (old new : Pending) : Type 0 where
  pub kept : (count : ℕ) (t : Rows) (unsealed : List (ℕ × Charged)) (cost : Charge) → IsTree t → HaveInodes count inodes t → AreOwned inodes t unsealed → Fits t u → is_built u ≡ true
      → MakesTheLast count inodes t unsealed u → weight_kept cost e.gave_rows → e.recs ≡ its_records count inodes u → e.ops ≡ ops_of inodes u
      → IsPendingOf count inodes t unsealed old → IsPendingOf count inodes (apply t u) ((e.stream, (u, cost)) ∷ unsealed) new
  pub queue : new.txns.queue ≡ old.txns.queue
  pub seals : new.txns.seals ≡ old.txns.seals
