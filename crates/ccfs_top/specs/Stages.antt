-- What the calls of a run make durable, and the history that they make.
use Rattle.std.specs.Prelude.{ℕ, Bool, true, false, List, [], ◌∷◌, ◌++◌, Result, IsErrOf}
use Rattle.ccfs_top.specs.declared.session.StepFault.{StepFault}
use Rattle.ccfs_top.specs.declared.session.StepFault.TheVariants.{Device}
use Rattle.ccfs_base.specs.declared.commands.Command.{Command}
use Rattle.ccfs_base.specs.declared.commands.Command.TheVariants.{StreamSync, Sync, Flush}
use Rattle.tree_model.specs.Rows.{Rows}
use Rattle.tree_model.specs.declared.rows.Entry.{Entry}
use Rattle.tree_cuts.specs.Calls.{Sizes}
use Rattle.history_model.specs.Histories.{start, now_after, entry_of}

-- the commands that make durable what is sealed
abbrev pub is_sync_form : Command → Bool
is_sync_form StreamSync = true
is_sync_form Sync = true
is_sync_form Flush = true
is_sync_form c = false

-- a call wasn't performed since the device failed
abbrev pub Failed : {A : Type 0} → Result A StepFault → Type 0
Failed result = IsErrOf result Device

-- the history with one more call
abbrev pub called : Sizes → Rows → List Entry → ℕ → Command → List Entry
called s t h actor c = h ++ entry_of s (now_after s (start t) h) actor c ∷ []
