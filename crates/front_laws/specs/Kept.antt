-- What a front keeps true of its history and its inodes.
use Rattle.std.specs.Prelude.{◌≡◌, ℕ, Bool, true, false, not, Option, None, Some, List, length}
use Rattle.std.specs.List.{AllByRecursion}
use Rattle.ccfs_base.specs.declared.commands.Command.{Command}
use Rattle.ccfs_base.specs.declared.commands.Command.TheVariants as commands
use Rattle.tree_model.specs.declared.rows.Update.{Update}
use Rattle.tree_model.specs.declared.rows.Entry.{Entry}
use Rattle.tree_model.specs.Rows.{Rows}
use Rattle.tree_cuts.specs.Calls.{Sizes}
use Rattle.history_model.specs.State.{Now}
use Rattle.history_model.specs.Histories.{start, now_after, IsLegal}
use Rattle.carried_volumes.specs.Plain.{IsPlain}
use Rattle.carried_volumes.specs.Carried.{HaveInodes}
use Rattle.update_records.specs.Built.{is_built}
use Rattle.update_records.specs.Batches.{IsNamed}
use Rattle.front_laws.specs.Inodes.{AllHaveLowest}

-- an update whose records are built, and which gives names; or none
abbrev pub IsTame : Option Update → Type 0
IsTame None = Unit {0}
IsTame (Some u) = (is_built u ≡ true) × IsNamed u

-- whether a command is built: those on names, and the sync forms but that of a handle; a stream is set without the flag
abbrev pub is_answered : Command → Bool
is_answered (commands.Mkdir path) = true
is_answered (commands.Create path) = true
is_answered (commands.Unlink path) = true
is_answered (commands.Rmdir path) = true
is_answered (commands.Rename path to) = true
is_answered (commands.Stat path) = true
is_answered (commands.List path skip) = true
is_answered (commands.SetStream stream ignore) = not ignore
is_answered commands.StreamSync = true
is_answered commands.Sync = true
is_answered commands.Flush = true
is_answered c = false

-- what a history left from the start on the tree of opening
abbrev pub now_of : Sizes → Rows → List Entry → Now
now_of sizes t h = now_after sizes (start t) h

-- A history is legal on a tree of opening t whose files are empty, its commands and updates are built, and each row has its inode: those of
-- the opening different ones, and each new row the lowest that was free. The list has an inode for each serial, dropped ones included.
pub record IsKept (sizes : Sizes) (t : Rows) (inodes : List ℕ) (h : List Entry) : Type 0 where
  pub plain : IsPlain t
  pub have : HaveInodes sizes.inodes inodes t
  pub legal : IsLegal sizes (start t) h
  pub answered : AllByRecursion (λ e. is_answered e.command ≡ true) h
  pub tame : AllByRecursion (λ e. IsTame e.update) h
  pub lowest : AllHaveLowest sizes inodes (start t) h
  pub listed : length inodes ≡ (now_of sizes t h).next
