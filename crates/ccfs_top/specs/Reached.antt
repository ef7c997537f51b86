-- How far a run has come.
use Rattle.std.specs.Prelude.{◌≡◌, ℕ, List, take}
use Rattle.tree_model.specs.declared.rows.Entry.{Entry}
use Rattle.tree_model.specs.Rows.{Rows}
use Rattle.history_model.specs.State.{Now}
use Rattle.history_model.specs.Histories.{start, durable}
use Rattle.script_text.specs.declared.scripts.Call.{Call}
use Rattle.tree_cuts.specs.Calls.{Sizes}
use Rattle.ccfs_top.specs.Runs.{history}

-- the history of the first i calls, over an image of these sizes
abbrev pub history_to : Sizes → Now → List Call → ℕ → List Entry
history_to k n0 calls i = history k n0 (take i calls)

-- The first i calls were performed on the tree of opening t, over an image of these sizes. h is their history, whose syncs
-- acknowledged so many seals.
pub record Reached (k : Sizes) (t : Rows) (calls : List Call) (i : ℕ) (h : List Entry) (written : ℕ) : Type 0 where
  pub entries : h ≡ history_to k (start t) calls i
  pub acknowledged : durable h ≡ written
