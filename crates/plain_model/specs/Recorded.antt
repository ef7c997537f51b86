-- Histories of calls on a tree of opening, as they are recorded.
use Rattle.std.specs.Prelude.{◌≡◌, ℕ, ◌+◌, ◌^◌, Bool, ◌&&◌, nat_lt, List, [], ◌∷◌, ◌++◌}
use Rattle.std.specs.declared.option.Option.{Option}
use Rattle.std.specs.declared.option.Option.TheVariants.{None, Some}
use Rattle.stream_cuts.specs.Streams as streams
use Rattle.ccfs_base.specs.Fits.{fits_command}
use Rattle.ccfs_base.specs.declared.commands.Command.{Command}
use Rattle.tree_model.specs.declared.rows.Update.{Update}
use Rattle.tree_model.specs.declared.rows.Entry.{Entry}
use Rattle.tree_model.specs.Rows.{Rows, IsTree}
use Rattle.tree_cuts.specs.Calls.{Sizes}
use Rattle.history_model.specs.State.{Now}
use Rattle.history_model.specs.Histories.{start, now_after, entry_of, IsLegal, steps_in}
use Rattle.plain_model.specs.declared.cutting.Step.{Step}
use Rattle.plain_model.specs.Bounds.{FilesFit}
use Rattle.plain_model.specs.Steps.{steps_of}

-- the numbers of the image, the tree of opening, and the entries of all calls so far
pub record Recorded : Type 0 where
  pub sizes : Sizes
  pub opening : Rows
  pub entries : List Entry

-- what the calls so far left
abbrev pub now_of : Recorded → Now
now_of r = now_after r.sizes (start r.opening) r.entries

-- the entry that a call may make next
abbrev pub next_entry : Recorded → ℕ → Command → Entry
next_entry r actor c = entry_of r.sizes (now_of r) actor c

-- with that entry
abbrev pub called : Recorded → ℕ → Command → Recorded
called r actor c = record r { entries = r.entries ++ next_entry r actor c ∷ [] }

-- whether a call may be made: the actor is below 64, the command is within its bounds, and there are serials and numbers of
-- seals left
abbrev pub may_call : Recorded → ℕ → Command → Bool
may_call r actor c = nat_lt actor 64 && (fits_command c && (nat_lt ((now_of r).next + 1) (2 ^ 32) && nat_lt ((now_of r).seals + 65) (2 ^ 64)))

-- the step of an update that enters a stream, if there is one
abbrev pub entered_step : ℕ → Option Update → List (streams.Step Update)
entered_step s None = []
entered_step s (Some u) = streams.Enter s u ∷ []

-- what is recorded is a legal history on a tree whose files fit, what it left, and its steps
pub record IsRecorded (sizes : Sizes) (opening : Rows) (now : Now) (entries : List Entry) (steps : List Step) : Type 0 where
  pub tree : IsTree opening
  pub files : FilesFit opening
  pub legal : IsLegal sizes (start opening) entries
  pub left : now ≡ now_after sizes (start opening) entries
  pub told : steps_of steps ≡ steps_in sizes (start opening) entries
