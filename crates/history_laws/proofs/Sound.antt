-- What each state that a legal history leaves is, and what is known of an update that such a state accepts.
use Rattle.std.proofs.Common.{◌≡◌, ◌⊎◌, ℕ, ◌+◌, ◌≤◌, ◌<◌, List, length}
use Rattle.std.specs.Prelude.{Bool, false, nat_lt}
use Rattle.std.specs.List.{AllByRecursion}
use Rattle.std.specs.declared.option.Option.{Option}
use Rattle.std.specs.declared.option.Option.TheVariants.{None, Some}
use Rattle.std.specs.FinMap.{get}
use Rattle.ccfs_base.specs.declared.commands.Command.{Command}
use Rattle.ccfs_base.specs.declared.commands.Command.TheVariants as command
use Rattle.tree_model.specs.declared.rows.Update.{Update}
use Rattle.tree_model.specs.declared.rows.Update.TheVariants.{Make, Write, Resize, Remove, Move, Release}
use Rattle.tree_model.specs.Rows.{IsTree, IsDir, IsFile}
use Rattle.tree_model.specs.Updates.{Fits}
use Rattle.tree_model.specs.Weights.{length_at}
use Rattle.tree_cuts.specs.Calls.{Sizes}
use Rattle.history_model.specs.State.{Now, Opened, is_open_on, closed}
use Rattle.history_model.specs.Answers.{larger, need, free_for, no_inode}

-- the rows are a tree, none has a serial that is still to be given, the handles are open on files, and each actor's
-- stream is one of the 64
pub record IsSound (n : Now) : Type 0 where
  pub tree : IsTree n.tree
  pub new : (k : ℕ) → n.next ≤ k → get n.tree k ≡ None
  pub files : AllByRecursion (λ o. IsFile n.tree o.file) n.handles
  pub streams : AllByRecursion (λ c. c.stream < 64) n.choices

-- the handles that a command leaves open, but for one that it opens
abbrev pub handles_left : Now → ℕ → Command → List Opened
handles_left n actor (command.Close handle) = closed n.handles actor handle
handles_left n actor c = n.handles

-- a replaced file stays where a handle is open on it
abbrev pub LeavesIt : List Opened → Option ℕ → Bool → Type 0
LeavesIt hs None stays = Unit {0}
LeavesIt hs (Some y) stays = stays ≡ is_open_on hs y

module _ (sizes : Sizes) (n : Now) (s : ℕ) (hs : List Opened) where
  -- the update applies, and there is room for it: blocks that the stream s may take, or an inode. A new row gets the next
  -- serial, and what goes is a directory or a file that none of these handles is open on
  abbrev pub Told : Update → Type 0
  Told (Make dir name id is_dir) = Fits n.tree (Make dir name id is_dir) × (id ≡ n.next) × (no_inode sizes n s ≡ false)
  Told (Write id off bytes) = Fits n.tree (Write id off bytes) × (length bytes ≤ 65536)
      × (nat_lt (free_for sizes n s) (need sizes n id (larger (length_at n.tree id) (off + length bytes))) ≡ false)
  Told (Resize id size) = Fits n.tree (Resize id size) × (nat_lt (free_for sizes n s) (need sizes n id size) ≡ false)
  Told (Remove dir name id stays) = Fits n.tree (Remove dir name id stays) × ((stays ≡ is_open_on hs id) ⊎ IsDir n.tree id)
  Told (Move dir name to_dir to_name id is_dir replaced stays) = Fits n.tree (Move dir name to_dir to_name id is_dir replaced stays) × LeavesIt hs replaced stays
  Told (Release id) = Fits n.tree (Release id) × (is_open_on hs id ≡ false)
