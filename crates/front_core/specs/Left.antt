-- What the calls of a history left, as a front keeps it, and what a call makes of it.
use Rattle.std.specs.Prelude.{◌≡◌, ℕ, ◌+◌, ◌<◌, ◌≤◌, Bool, true, false, if◌then◌else◌, ◌==◌, Option, None, Some, List, [], ◌∷◌, ◌++◌, length, map, slice_index}
use Rattle.std.specs.List.{filter}
use Rattle.block_layout.specs.Sizes.{good_inodes}
use Rattle.stream_cuts.specs.Streams.{Step, Seal, Enter}
use Rattle.stream_cuts.specs.Forced.{streams, is_open}
use Rattle.ccfs_base.specs.declared.commands.Command.{Command}
use Rattle.ccfs_base.specs.declared.commands.Command.TheVariants as commands
use Rattle.ccfs_base.specs.declared.replies.Reply.{Reply}
use Rattle.ccfs_base.specs.declared.replies.Reply.TheVariants as replies
use Rattle.tree_model.specs.declared.rows.Update.{Update}
use Rattle.tree_model.specs.declared.rows.Entry.{Entry}
use Rattle.tree_model.specs.Rows.{Rows}
use Rattle.tree_cuts.specs.Calls.{Sizes, Charged, charge}
use Rattle.history_model.specs.State.{Now, stream_in}
use Rattle.history_model.specs.Histories.{steps_by}
use Rattle.cross_dep.specs.Books.{has_bit}
use Rattle.update_records.specs.Built.{is_built}
use Rattle.command_answers.specs.Viewing.{IsReady}
use Rattle.front_laws.specs.Kept.{IsKept, now_of}
use Rattle.front_laws.specs.Inodes.{with_inode}
use Rattle.front_laws.specs.Batches.{sealed_in}
use Rattle.front_core.specs.Pending.{IsPendingOf, IsAsBefore}
use Rattle.front_core.specs.declared.state.State.{State}
use Rattle.front_core.specs.declared.planning.Plan.{Plan}

-- The tree, the next serial, the stream of each actor and what is unsealed are those that a history left.
pub record IsLeft (sizes : Sizes) (n : Now) (s : State) : Type 0 where
  pub tree : s.tree ≡ n.tree
  pub next : s.next ≡ n.next
  pub streams : (actor : ℕ) → actor < 64 → slice_index s.streams actor ≡ stream_in n.choices actor
  pub pending : IsPendingOf sizes.inodes s.inodes.items n.tree n.unsealed s.pending
  pub seals : s.pending.txns.seals ≡ n.seals

-- A history of at most 1,048,576 calls is kept on the tree of opening t, and the state is what it left. The tree of opening has at most
-- 8,192 rows, and each call makes at most one: so serials stay far below 2^32.
pub record IsStateOf (sizes : Sizes) (t : Rows) (h : List Entry) (s : State) : Type 0 where
  pub kept : IsKept sizes t s.inodes.items h
  pub left : IsLeft sizes (now_of sizes t h) s
  pub few : length h ≤ 1048576
  pub short : s.next ≤ 8192 + length h
  pub good : (blocks : ℕ) × (good_inodes blocks sizes.inodes ≡ true)

-- it is what some history left
abbrev pub IsSound : Sizes → State → Type 0
IsSound sizes s = (t : Rows) × ((h : List Entry) × IsStateOf sizes t h s)

-- Nothing but rooms and places are others than before.
pub record IsSameState (old new : State) : Type 0 where
  pub tree : new.tree ≡ old.tree
  pub next : new.next ≡ old.next
  pub streams : new.streams ≡ old.streams
  pub inodes : new.inodes.items ≡ old.inodes.items
  pub pending : IsAsBefore old.pending new.pending

-- whether a sync form seals a stream, where it has an unsealed update: a sync of the stream 2 seals 2 alone
abbrev pub is_synced : Command → ℕ → ℕ → Bool
is_synced commands.StreamSync stream s = s == stream
is_synced commands.Sync stream s = true
is_synced c stream s = false

-- the reply of a sync form after which there are so many seals, or of setting a stream
abbrev pub sync_reply : Command → ℕ → Reply
sync_reply (commands.SetStream stream ignore) k = replies.Done
sync_reply c k = replies.Synced k

-- the streams that a plan seals, in their order: those whose bits are set, and then the own one, where it says so
abbrev pub sealed_by : Plan → List ℕ
sealed_by plan = filter (has_bit plan.forced) streams ++ (if plan.own then plan.stream ∷ [] else [])

-- the step of the update, if there is one
abbrev pub entered_step : Rows → ℕ → Option Update → List (Step Charged)
entered_step t s None = []
entered_step t s (Some u) = Enter s (u, charge t u) ∷ []

-- A plan tells what a call is to do: its stream, its reply and update, and the streams that it seals.
pub record IsPlanOf (sizes : Sizes) (n : Now) (e : Entry) (plan : Plan) : Type 0 where
  pub stream : plan.stream ≡ e.stream
  pub reply : plan.reply ≡ e.reply
  pub update : plan.update ≡ e.update
  pub steps : steps_by sizes n e ≡ map Seal (sealed_by plan) ++ entered_step n.tree e.stream e.update
  -- each of the streams has an unsealed update, and the own one isn't sealed twice
  pub forced_open : (s : ℕ) → s < 64 → has_bit plan.forced s ≡ true → is_open n.unsealed s ≡ true
  pub own_open : plan.own ≡ true → is_open n.unsealed plan.stream ≡ true
  pub apart : (u : Update) → plan.update ≡ Some u → has_bit plan.forced plan.stream ≡ false
  pub alone : plan.update ≡ None → plan.own ≡ false
  -- the update may be made, and its records are built
  pub ready : (u : Update) → e.update ≡ Some u → IsReady n.tree u
  pub built : (u : Update) → e.update ≡ Some u → is_built u ≡ true

-- A call was made: the history with it is kept, the state is what it left, and its batches stand last in the queue.
pub record IsMade (sizes : Sizes) (t : Rows) (h : List Entry) (e : Entry) (old new : State) : Type 0 where
  pub kept : IsKept sizes t new.inodes.items (h ++ e ∷ [])
  pub left : IsLeft sizes (now_of sizes t (h ++ e ∷ [])) new
  pub inodes : (i : ℕ) × (new.inodes.items ≡ with_inode e.update i old.inodes.items)
  pub queue : new.pending.txns.queue ≡ old.pending.txns.queue
      ++ sealed_in sizes.inodes new.inodes.items (now_of sizes t h).seals (now_of sizes t h).unsealed (steps_by sizes (now_of sizes t h) e)
