-- What the bytes of an image mean to a user.
use Rattle.std.specs.Prelude.{◌≡◌, ◌⊎◌, ℕ, ◌+◌, ◌≤◌, Some, List, [], ◌++◌, take, drop}
use Rattle.disk_model.specs.declared.disk.Disk.{Ghosts}
use Rattle.tree_model.specs.Picture.{picture}
use Rattle.tree_model.specs.declared.rows.Entry.{Entry}
use Rattle.history_model.specs.Histories.{start, now_after, seal_count, tree_at}
use Rattle.history_laws.specs.Cuts.{MeansCut}
use Rattle.script_text.specs.Scripts.{calls_of}
use Rattle.script_text.specs.declared.scripts.Call.{Call}
use Rattle.gate_journal.specs.Runs.{LeavesBy}
use Rattle.recovery.specs.Recovering.{shown_for_now}
use Rattle.ccfs_top.specs.Images.{Image}
use Rattle.ccfs_top.specs.Runs.{further, history, calls_in}
use Rattle.ccfs_top.specs.Outcomes.{first_history}

-- Bytes that mean a cut of a history over an image. The calls of h were answered, and those of `more` came behind them. Where
-- `0 mkdir /a`, a sync and `0 mkdir /b` were answered, and a second sync was under way, they have `/a`, and `/b` or not.
pub record Means (image : Image) (h more : List Entry) (c : List ℕ) : Type 0 where
  -- the cut is that after so many seals
  pub seals : ℕ
  pub few : seals ≤ seal_count image.sizes (start image.tree) (h ++ more)
  -- they show the picture of its tree, under the number so many behind the image's
  pub shows : shown_for_now c
      ≡ Some (further image.number seals, picture (tree_at image.sizes (start image.tree) (h ++ more) seals))
  -- of each stream it keeps the first updates, and with each update all earlier ones of other streams that meet it; it holds
  -- each sync that was acknowledged in h; and what it keeps applies in order and makes that tree
  pub means : MeansCut image.sizes image.tree h more seals

-- ---- scripts

-- the calls that a script asks for, none where a line is outside the grammar
abbrev pub calls_asked : List ℕ → List Call
calls_asked script = calls_in (calls_of script)

-- the history of the first i of a script's calls over an image
abbrev pub answered : Image → List ℕ → ℕ → List Entry
answered image script i = first_history image (calls_asked script) i

-- the history of the call that is under way behind the first i calls over an image: its entry, and none behind the last
abbrev pub under_way : Image → List Call → ℕ → List Entry
under_way image calls i =
    history image.sizes (now_after image.sizes (start image.tree) (first_history image calls i))
    (take 1 (drop i calls))

-- ---- runs

-- What the images mean that a run over an image leaves on a disk, where so many whole reply lines were written.
pub record MeansRun {X : Type 0} (d : Ghosts X) (old new : X) (image : Image) (calls : List Call) (lines : ℕ) : Type 0 where
  -- at each moment of it one of the start, or a cut of the calls of those lines and the one under way
  pub ever : LeavesBy d old new
      (λ c. d.may_leave old c ⊎ Means image [] (first_history image calls (lines + 1)) c)
  -- in the end such a cut with each sync that those lines acknowledge
  pub now : (c : List ℕ) → d.may_leave new c
      → Means image (first_history image calls lines) (under_way image calls lines) c
