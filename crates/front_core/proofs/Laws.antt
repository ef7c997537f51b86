-- The laws of what a front keeps, by the names that the proofs here use.
use Rattle.std.proofs.Common.{◌≡◌, ℕ, ◌+◌, List, length, true}
use Rattle.std.specs.FinMap.{len}
use Rattle.stream_cuts.specs.Streams.{without}
use Rattle.tree_model.specs.Rows.{Rows}
use Rattle.tree_model.specs.declared.rows.Update.{Update}
use Rattle.tree_model.specs.Updates.{apply, Fits}
use Rattle.tree_model.specs.Weights.{live}
use Rattle.tree_cuts.specs.Calls.{Charged, charge}
use Rattle.history_model.specs.Histories.{makes}
use Rattle.carried_volumes.specs.Plain.{IsPlain}
use Rattle.update_records.specs.Built.{is_built}
use Rattle.front_laws.specs.Inodes.{dropped}
use Rattle.front_laws.specs.Owned.{AreOwned}
use Rattle.front_laws.specs.Laws.{HistoriesLeaveKeptStates, EmptyHistoriesAreKept, NextCallsAreKept, AFreeInodeIsThere, RowsFitBehindSeals, MoreInodesLeaveUpdates, UpdatesMayBeLogged, LongerKeepsBatches, SealsMakeBatches}
use Rattle.front_laws.proofs.Owning as owning
use Rattle.front_laws.proofs.KeptNow as kept_now
use Rattle.front_laws.proofs.Starting as starting
use Rattle.front_laws.proofs.MoreCalls as more_calls
use Rattle.front_laws.proofs.FreeInodes as free_inodes
use Rattle.front_laws.proofs.RowsFit as rows_fit_behind
use Rattle.front_laws.proofs.MoreInodes as inodes_behind
use Rattle.front_laws.proofs.MayLog as may_log
use Rattle.front_laws.proofs.LongerBatches as longer
use Rattle.front_laws.proofs.MadeBatches as made_batches
use Rattle.front_laws.proofs.Weighing as weighing
use Rattle.front_laws.proofs.Live as living

pub owned_sealed : (inodes : List ℕ) (t : Rows) (unsealed : List (ℕ × Charged)) (s : ℕ) → AreOwned inodes t unsealed → AreOwned inodes t (without s unsealed)
owned_sealed = owning.owned_sealed

pub kept_states : HistoriesLeaveKeptStates
kept_states = kept_now.histories_leave_kept_states

pub empty_kept : EmptyHistoriesAreKept
empty_kept = starting.empty_histories_are_kept

pub next_kept : NextCallsAreKept
next_kept = more_calls.next_calls_are_kept

pub a_free_inode : AFreeInodeIsThere
a_free_inode = free_inodes.a_free_inode_is_there

pub rows_fit : RowsFitBehindSeals
rows_fit = rows_fit_behind.rows_fit_behind_seals

pub more_inodes : MoreInodesLeaveUpdates
more_inodes = inodes_behind.more_inodes_leave_updates

pub may_be_logged : UpdatesMayBeLogged
may_be_logged = may_log.updates_may_be_logged

pub longer_batches : LongerKeepsBatches
longer_batches = longer.longer_keeps_batches

pub seals_make_batches : SealsMakeBatches
seals_make_batches = made_batches.seals_make_batches

pub rows_counted : (t : Rows) (u : Update) → Fits t u → is_built u ≡ true → len (apply t u) + length (dropped u) ≡ len t + makes u
rows_counted = weighing.rows_counted

pub gave_dropped : (t : Rows) (u : Update) → Fits t u → is_built u ≡ true → length (dropped u) ≡ (charge t u).gave_rows
gave_dropped = weighing.gave_dropped

pub live_stays : (t : Rows) (u : Update) → IsPlain t → is_built u ≡ true → live (apply t u) ≡ live t
live_stays = weighing.live_stays

pub built_weight : (t : Rows) (u : Update) → IsPlain t → is_built u ≡ true → (charge t u).weight ≡ 512
built_weight = weighing.built_weight

pub built_blocks : (t : Rows) (u : Update) → IsPlain t → is_built u ≡ true → (charge t u).gave_blocks ≡ 0
built_blocks = weighing.built_blocks

pub live_none : (t : Rows) → IsPlain t → live t ≡ 0
live_none = living.live_none
