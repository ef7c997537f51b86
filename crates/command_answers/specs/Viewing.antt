-- What answering a command sees of what a history left, and what is known of the update that it answers.
use Rattle.std.specs.Prelude.{◌≡◌, ℕ, ◌+◌, ◌-◌, ◌≤◌, Bool, true, false, nat_lt, is_some, List, []}
use Rattle.std.specs.FinMap.{get, len}
use Rattle.std.specs.declared.option.Option.TheVariants.{None}
use Rattle.stream_cuts.specs.Streams.{without}
use Rattle.ccfs_base.specs.Limits.{file_max}
use Rattle.ccfs_base.specs.Names.{is_name}
use Rattle.ccfs_base.specs.declared.commands.Command.{Command}
use Rattle.ccfs_base.specs.declared.commands.Command.TheVariants.{Mkdir, Create, Unlink, Rmdir, Rename, Stat, List as Listing}
use Rattle.ccfs_base.specs.declared.replies.Refusal.TheVariants as refusal
use Rattle.tree_model.specs.declared.rows.Update.{Update}
use Rattle.tree_model.specs.declared.rows.Update.TheVariants.{Make, Remove, Move}
use Rattle.tree_model.specs.Rows.{Rows}
use Rattle.tree_model.specs.Entries.{entry}
use Rattle.tree_model.specs.Updates.{Fits}
use Rattle.tree_model.specs.Walk.{last_of}
use Rattle.tree_model.specs.Weights.{length_at}
use Rattle.tree_cuts.specs.Calls.{Sizes, unsealed_rows}
use Rattle.history_model.specs.State.{Now}
use Rattle.history_model.specs.Answers.{Answer, refuses, does, is_root, at_parent}
use Rattle.command_answers.specs.declared.views.View.{View}
use Rattle.command_answers.specs.declared.views.Answered.{Answered}

-- no file is longer than a file may be
abbrev pub FilesFit : Rows → Type 0
FilesFit t = (x : ℕ) → length_at t x ≤ file_max

-- the view is of what a history left, for the updates of the stream s: its tree, whose files are within their limit, and the
-- serial of its next new row, which no row has yet, the inodes of the image, and the rows that the unsealed updates of the
-- other streams gave up. No handle is open
pub record Sees (sizes : Sizes) (n : Now) (s : ℕ) (v : View) : Type 0 where
  pub tree : n.tree ≡ v.tree.now
  pub files : FilesFit n.tree
  pub next : n.next ≡ v.next
  pub fresh : get n.tree n.next ≡ None
  pub inodes : sizes.inodes ≡ v.inodes
  pub gave : unsealed_rows (without s n.unsealed) ≡ v.gave_rows
  pub closed : n.handles ≡ []

-- an answer as histories tell it: the reply, and the update or none
abbrev pub told : Answered → Answer
told a = (a.reply, a.update)

-- a history that left this tree and nothing else
abbrev pub left_alone : Rows → Now
left_alone t = record { tree = t; choices = []; handles = []; unsealed = []; next = 0; seals = 0 }

-- what mkdir and create answer in a directory, by the tree, the serial of the new row, the inodes and the rows that aren't free
abbrev pub make_in : Rows → ℕ → ℕ → ℕ → Bool → ℕ → List ℕ → Answer
make_in t next inodes gave is_dir dir name = refuses (is_some (entry t dir name)) refusal.Exists
    (refuses (nat_lt (inodes - 1) (len t + 1 + gave)) refusal.NoInode (does (Make dir name next is_dir)))

-- the same at a path
abbrev pub make_at : Rows → ℕ → ℕ → ℕ → Bool → List (List ℕ) → Answer
make_at t next inodes gave is_dir path = refuses (is_root path) refusal.Exists (at_parent t path (λ dir. make_in t next inodes gave is_dir dir (last_of path)))

-- the names that an update tells are names
abbrev pub IsNamed : Update → Type 0
IsNamed (Make dir name id is_dir) = is_name name ≡ true
IsNamed (Remove dir name id stays) = is_name name ≡ true
IsNamed (Move dir name to_dir to_name id is_dir replaced stays) = (is_name name ≡ true) × (is_name to_name ≡ true)
IsNamed u = Unit {0}

-- no row stays that an update removes
abbrev pub NoneStays : Update → Type 0
NoneStays (Remove dir name id stays) = stays ≡ false
NoneStays (Move dir name to_dir to_name id is_dir replaced stays) = stays ≡ false
NoneStays u = Unit {0}

-- an update that is ready to be made: it applies, its names are names, and no row stays that it removes
pub record IsReady (t : Rows) (u : Update) : Type 0 where
  pub fits : Fits t u
  pub named : IsNamed u
  pub none_stays : NoneStays u

-- whether a command is answered from a view
abbrev pub is_viewed : Command → Bool
is_viewed (Mkdir path) = true
is_viewed (Create path) = true
is_viewed (Unlink path) = true
is_viewed (Rmdir path) = true
is_viewed (Rename path to) = true
is_viewed (Stat path) = true
is_viewed (Listing path skip) = true
is_viewed c = false
