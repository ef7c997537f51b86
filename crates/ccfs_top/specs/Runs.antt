-- What a run of a script, and the other rows of the command line, write and answer: functions of the words, the script and
-- what is found.
use Rattle.std.specs.Prelude.{◌≡◌, ℕ, ◌+◌, ◌-◌, ◌%◌, ◌^◌, false, cond, List, [], map}
use Rattle.std.specs.declared.option.Option.{Option}
use Rattle.std.specs.declared.option.Option.TheVariants.{None, Some}
use Rattle.std.specs.declared.result.Result.{Result}
use Rattle.std.specs.declared.result.Result.TheVariants.{Ok, Err}
use Rattle.ccfs_base.specs.declared.commands.Command.{Command}
use Rattle.tree_model.specs.declared.rows.Entry.{Entry}
use Rattle.tree_model.specs.Rows.{Rows}
use Rattle.tree_model.specs.Picture.{picture}
use Rattle.history_model.specs.State.{Now}
use Rattle.history_model.specs.Histories.{start, hist, durable, tree_at}
use Rattle.script_text.specs.declared.scripts.Call.{Call}
use Rattle.script_text.specs.Scripts.{calls_of, first_unbuilt, is_long}
use Rattle.script_text.specs.Texts.{reply_line, too_long_line, bad_image_line, bad_line_line, made_line, memory_fault_line, not_built_line}
use Rattle.script_text.specs.Trees.{tree_lines}
use Rattle.block_layout.specs.Sizes.{data_start}
use Rattle.image_check.specs.Kinds.{kind_name}
use Rattle.tree_cuts.specs.Calls.{Sizes}
use Rattle.front_core.specs.Fronts.{Fronted}
use Rattle.ccfs_top.specs.Images.{Image, Finding, Good, Spoilt, Unread}

-- a batch number, some places further
abbrev pub further : ℕ → ℕ → ℕ
further k n = (k + n) % 2 ^ 64

-- the history of these calls
abbrev pub asked : List Call → List (ℕ × Command)
asked cs = map (λ c. (c.actor, c.command)) cs

abbrev pub history : Sizes → Now → List Call → List Entry
history k n cs = hist k n (asked cs)

abbrev pub line_of : Entry → List ℕ
line_of e = reply_line e.actor e.reply

-- the reply lines of a history, in order
abbrev pub reply_lines : List Entry → List (List ℕ)
reply_lines h = map line_of h

-- an image, by its number and the front of a session on it
abbrev pub image_by : ℕ → Fronted → Image
image_by number front = record { number = number; tree = front.opening; sizes = front.sizes }

-- the history of all calls over an image, and its reply lines
abbrev pub final_history : Image → List Call → List Entry
final_history image calls = history image.sizes (start image.tree) calls

abbrev pub replies : Image → List Call → List (List ℕ)
replies image calls = reply_lines (final_history image calls)

-- the tree that is durable behind all calls, and its number
abbrev pub final_tree : Image → List Call → Rows
final_tree image calls = tree_at image.sizes (start image.tree) (final_history image calls) (durable (final_history image calls))

abbrev pub final_number : Image → List Call → ℕ
final_number image calls = further image.number (durable (final_history image calls))

-- What is to come: a status, the reply lines, what stands behind them, and the number that is answered.
pub record Expected : Type 0 where
  pub status : ℕ
  pub replies : List (List ℕ)
  pub last : List ℕ
  pub batches : ℕ

-- a line alone
abbrev pub alone : ℕ → List ℕ → Expected
alone status line = record { status = status; replies = []; last = line; batches = 0 }

-- the run of these calls over an image: their replies, and the tree of what is durable, with its number
abbrev pub ran : Image → List Call → Expected
ran image calls = record {
  status = 0;
  replies = replies image calls;
  last = tree_lines (final_number image calls) (picture (final_tree image calls));
  batches = final_number image calls;
}

-- what comes of what is found, where a good image has this end. Where nothing was read, a fault is the end: want of memory
-- stands for any
abbrev pub over : {A : Type 0} → (A → Expected) → Finding A → Expected
over good (Good a) = good a
over good (Spoilt kind block) = alone 8 (bad_image_line (kind_name kind) block)
over good Unread = alone 9 memory_fault_line

-- what comes of these calls, of which this is the line of the first that isn't built
abbrev pub over_calls : Finding Image → List Call → Option ℕ → Expected
over_calls found calls (Some line) = alone 1 (not_built_line line)
over_calls found calls None = over (λ image. ran image calls) found

-- what comes of a script's calls, or of its first line that is outside the grammar
abbrev pub over_script : Finding Image → Result (List Call) ℕ → Expected
over_script found (Err line) = alone 3 (bad_line_line line)
over_script found (Ok calls) = over_calls found calls (first_unbuilt calls)

-- what is to come of a run of this script
abbrev pub expected : List ℕ → Finding Image → Expected
expected script found = cond (is_long script) (alone 4 too_long_line) (over_script found (calls_of script))

-- the calls of a script, where each line is in the grammar
abbrev pub calls_in : Result (List Call) ℕ → List Call
calls_in (Ok calls) = calls
calls_in (Err line) = []

-- A script has these calls, and is neither too long nor has one that isn't built.
pub record IsReady (script : List ℕ) (calls : List Call) : Type 0 where
  pub in_grammar : calls_of script ≡ Ok calls
  pub short : is_long script ≡ false
  pub built : first_unbuilt calls ≡ None

-- a script that is too long, or has a line that isn't a command, or one that isn't built
abbrev pub IsUnready : List ℕ → Type 0
IsUnready script = (calls : List Call) → IsReady script calls → ⊥

-- the tree with this number is printed
abbrev pub printed : ℕ × Rows → Expected
printed p = record { status = 0; replies = []; last = tree_lines p.0 (picture p.1); batches = p.0 }

-- an image of so many blocks and inodes is made
abbrev pub fresh : ℕ → ℕ → Expected
fresh blocks inodes = alone 0 (made_line blocks inodes (blocks - data_start inodes))
