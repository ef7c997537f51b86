-- Histories: the calls that were made, with their replies and updates, in order.
use Rattle.std.specs.Prelude.{◌≡◌, ℕ, suc, ◌+◌, ◌<◌, Bool, true, false, List, [], ◌∷◌, ◌++◌, length, IsTrue}
use Rattle.std.specs.declared.option.Option.{Option}
use Rattle.std.specs.declared.option.Option.TheVariants.{None, Some}
use Rattle.std.specs.declared.result.Result.{Result}
use Rattle.std.specs.declared.result.Result.TheVariants.{Ok, Err}
use Rattle.std.specs.FinMap.{entries}
use Rattle.stream_cuts.specs.Streams.{Step, unsealed_after}
use Rattle.stream_cuts.specs.Cuts.{seals}
use Rattle.stream_cuts.specs.States.{state_at}
use Rattle.ccfs_base.specs.declared.commands.Command.{Command}
use Rattle.ccfs_base.specs.declared.commands.Command.TheVariants as command
use Rattle.ccfs_base.specs.declared.replies.Reply.{Reply}
use Rattle.ccfs_base.specs.declared.replies.Reply.TheVariants as reply
use Rattle.ccfs_base.specs.declared.replies.Refusal.{Refusal}
use Rattle.ccfs_base.specs.Fits.{fits_command}
use Rattle.tree_model.specs.declared.rows.Row.{Row}
use Rattle.tree_model.specs.declared.rows.Update.{Update}
use Rattle.tree_model.specs.declared.rows.Update.TheVariants.{Make, Write, Resize, Remove, Move, Release}
use Rattle.tree_model.specs.declared.rows.Entry.{Entry}
use Rattle.tree_model.specs.Rows.{Rows}
use Rattle.tree_model.specs.Walk.{walk}
use Rattle.tree_model.specs.Updates.{apply}
use Rattle.tree_cuts.specs.Calls.{Sizes, Charged, Call, Accepted, SyncStream, SyncFile, SyncAll, Other, call_steps, plain}
use Rattle.history_model.specs.State.{Choice, Opened, Now, stream_in, ignores_in, file_in, closed}
use Rattle.history_model.specs.Answers.{answer, closes, larger}

-- the greatest serial of these rows, 0 where there is none
abbrev pub top_serial : List (ℕ × Row) → ℕ
top_serial [] = 0
top_serial (e ∷ es) = larger e.0 (top_serial es)

-- a session's start on a tree of opening: each new row gets the next serial above the greatest
abbrev pub start : Rows → Now
start t = record { tree = t; choices = []; handles = []; unsealed = []; next = suc (top_serial (entries t)); seals = 0 }

-- ---- what a call leaves

-- a sync of a handle's file, unless it is ignored or the handle isn't open
abbrev pub file_call : Bool → Option ℕ → Call
file_call true o = Other
file_call false None = Other
file_call false (Some x) = SyncFile x

-- a call without an update, as far as it matters for streams
abbrev pub sync_call : Now → ℕ → Command → Call
sync_call n actor command.StreamSync = SyncStream (stream_in n.choices actor)
sync_call n actor (command.Fsync handle) = file_call (ignores_in n.choices actor) (file_in n.handles actor handle)
sync_call n actor command.Sync = SyncAll
sync_call n actor c = Other

-- any call, as far as it matters for streams
abbrev pub call_by : Now → Entry → Call
call_by n e = of_update e.update
  where
    of_update : Option Update → Call
    of_update (Some u) = Accepted e.stream u
    of_update None = sync_call n e.actor e.command

-- what an actor chose is put in front
abbrev pub choices_by : List Choice → ℕ → Command → List Choice
choices_by cs actor (command.SetStream stream ignore) = record { actor = actor; stream = stream; ignore = ignore } ∷ cs
choices_by cs actor c = cs

-- a handle is put in front, where the walk led to a file: handle 0 of actor 3 on the file 7
abbrev pub opened_at : List Opened → ℕ → ℕ → Result ℕ Refusal → List Opened
opened_at os actor number (Ok x) = record { actor = actor; number = number; file = x } ∷ os
opened_at os actor number (Err cause) = os

-- a file that was opened gets its handle, and one that was closed gives it up
abbrev pub handles_by : Now → ℕ → Command → Reply → List Opened
handles_by n actor (command.OpenFile path) (reply.Handle number) = opened_at n.handles actor number (walk n.tree path 0)
handles_by n actor (command.Close handle) reply.Done = closed n.handles actor handle
handles_by n actor c r = n.handles

-- how many rows an update puts in
abbrev pub makes : Update → ℕ
makes (Make dir name id is_dir) = 1
makes (Write id off bytes) = 0
makes (Resize id size) = 0
makes (Remove dir name id stays) = 0
makes (Move dir name to_dir to_name id is_dir replaced stays) = 0
makes (Release id) = 0

-- the same of an update or none
abbrev pub made_by : Option Update → ℕ
made_by None = 0
made_by (Some u) = makes u

-- the tree after an update, or the same tree where there is none
abbrev pub tree_by : Rows → Option Update → Rows
tree_by t None = t
tree_by t (Some u) = apply t u

-- a call that may be made at all: the actor is below 64, and the command is within its bounds
abbrev pub MayCall : ℕ → Command → Type 0
MayCall actor c = (actor < 64) × IsTrue (fits_command c)

module _ (sizes : Sizes) where
  -- what an entry's call does to the streams
  abbrev pub steps_by : Now → Entry → List (Step Charged)
  steps_by n e = call_steps sizes n.tree n.unsealed (call_by n e)

  -- what is left once an entry is made
  abbrev pub entered_by : Now → Entry → Now
  entered_by n e = record {
    tree = tree_by n.tree e.update;
    choices = choices_by n.choices e.actor e.command;
    handles = handles_by n e.actor e.command e.reply;
    unsealed = unsealed_after n.unsealed (steps_by n e);
    next = n.next + made_by e.update;
    seals = n.seals + closes (steps_by n e);
  }

  -- what is left once all these entries are made
  abbrev pub now_after : Now → List Entry → Now
  now_after n [] = n
  now_after n (e ∷ h) = now_after (entered_by n e) h

  -- ---- legal histories

  -- the one entry that a call may make
  abbrev pub entry_of : Now → ℕ → Command → Entry
  entry_of n actor c = record {
    actor = actor;
    stream = stream_in n.choices actor;
    command = c;
    reply = (answer sizes n actor c).0;
    update = (answer sizes n actor c).1;
  }

  -- a history is legal where each entry is the one that its call may make there
  abbrev pub IsLegal : Now → List Entry → Type 0
  IsLegal n [] = Unit {0}
  IsLegal n (e ∷ h) = (e ≡ entry_of n e.actor e.command) × MayCall e.actor e.command × IsLegal (entered_by n e) h

  -- the one legal history of these calls, each an actor and a command
  abbrev pub hist : Now → List (ℕ × Command) → List Entry
  hist n [] = []
  hist n (c ∷ cs) = entry_of n c.0 c.1 ∷ hist (entered_by n (entry_of n c.0 c.1)) cs

  -- ---- seals and cuts

  -- the calls of a history, as far as they matter for streams
  abbrev pub calls_by : Now → List Entry → List Call
  calls_by n [] = []
  calls_by n (e ∷ h) = call_by n e ∷ calls_by (entered_by n e) h

  -- the updates that entered streams, and the seals, in the order of the history
  abbrev pub charged_in : Now → List Entry → List (Step Charged)
  charged_in n [] = []
  charged_in n (e ∷ h) = steps_by n e ++ charged_in (entered_by n e) h

  -- the same without what the updates were charged
  abbrev pub steps_in : Now → List Entry → List (Step Update)
  steps_in n h = plain (charged_in n h)

  -- the number of seals of a history
  abbrev pub seal_count : Now → List Entry → ℕ
  seal_count n h = length (seals (steps_in n h))

  -- the tree of the cut after the first d seals: the tree of opening with the updates that the cut keeps
  abbrev pub tree_at : Now → List Entry → ℕ → Rows
  tree_at n h d = state_at apply n.tree (steps_in n h) d

-- ---- what is durable

-- the number in a reply that acknowledges a sync, or n
abbrev pub synced_number : ℕ → Reply → ℕ
synced_number n (reply.Synced m) = m
synced_number n r = n

-- the same number, on top of one that was acknowledged before
abbrev pub durable_from : ℕ → List Entry → ℕ
durable_from n [] = n
durable_from n (e ∷ h) = durable_from (synced_number n e.reply) h

-- the number in the last reply that acknowledges a sync, 0 where there is none
abbrev pub durable : List Entry → ℕ
durable h = durable_from 0 h
