-- Runs: histories of calls that may happen, with their seals, cuts and trees. The example is that of Calls.
use Rattle.std.specs.Prelude.{ℕ, ◌<◌, List, [], ◌∷◌, length}
use Rattle.stream_cuts.specs.Streams.{entered, unsealed_after}
use Rattle.stream_cuts.specs.Cuts.{kept, lost, seals, cut_at, batch}
use Rattle.stream_cuts.specs.States.{after}
use Rattle.tree_model.specs.declared.rows.Update.{Update}
use Rattle.tree_model.specs.Rows.{Rows}
use Rattle.tree_model.specs.Updates.{apply}
use Rattle.tree_model.specs.Laws.{Applies}
use Rattle.tree_cuts.specs.Calls.{Sizes, Charged, Call, Accepted, SyncStream, SyncFile, SyncAll, Other, tree_after, charged_steps, steps}

-- The call may be made on the tree t: a stream that it names is below 64, and its update applies. So a may on the root
-- alone, in stream 1 but not in stream 64, and b may not, since there is no `/a`.
abbrev pub MayHappen : Rows → Call → Type 0
MayHappen t (Accepted s u) = s < 64 × Applies t u
MayHappen t (SyncStream s) = s < 64
MayHappen t (SyncFile x) = Unit {0}
MayHappen t SyncAll = Unit {0}
MayHappen t Other = Unit {0}

-- Each of these calls may be made on the tree at its place, from t on: a and then b, but not b and then a.
abbrev pub IsRun : Rows → List Call → Type 0
IsRun t [] = Unit {0}
IsRun t (call ∷ calls) = MayHappen t call × IsRun (tree_after t call) calls

module _ (sizes : Sizes) where
  -- The updates of a history with their streams, in its order: (1, a), (2, b).
  abbrev pub updates_of : Rows → List Call → List (ℕ × Update)
  updates_of t calls = entered (steps sizes t calls)

  -- The seals of a history, each with its stream's number of updates so far: (1, 1), (2, 1) after a, b and a sync of all.
  abbrev pub seals_of : Rows → List Call → List (ℕ × ℕ)
  seals_of t calls = seals (steps sizes t calls)

  -- The cut after the first n seals: 1 for stream 1 and 0 for stream 2 after one.
  abbrev pub cut_after : Rows → List Call → ℕ → ℕ → ℕ
  cut_after t calls n = cut_at (steps sizes t calls) n

  -- The updates that this cut keeps: (1, a) after one seal.
  abbrev pub kept_at : Rows → List Call → ℕ → List (ℕ × Update)
  kept_at t calls n = kept (updates_of t calls) (cut_after t calls n)

  -- The tree of this cut: that of opening with the kept updates applied in order. After one seal it has `/a`, and no
  -- `/a/f`.
  abbrev pub tree_at_cut : Rows → List Call → ℕ → Rows
  tree_at_cut t calls n = after apply t (kept_at t calls n)

  -- The updates that the cut after one more seal keeps and this one doesn't: (2, b) after one seal.
  abbrev pub batch_after : Rows → List Call → ℕ → List (ℕ × Update)
  batch_after t calls n = batch (steps sizes t calls) n

  -- The updates that no seal covers yet, each with its charge, the last first: b of stream 2 after a and b.
  abbrev pub unsealed_of : Rows → List Call → List (ℕ × Charged)
  unsealed_of t calls = unsealed_after [] (charged_steps sizes t calls)

  -- The number of the seals so far: 1 after a and b, and 2 after a sync of all.
  abbrev pub seal_count : Rows → List Call → ℕ
  seal_count t calls = length (seals_of t calls)

  -- The updates that the cut after all seals so far loses, in the order of the history: (2, b) after a and b.
  abbrev pub lost_so_far : Rows → List Call → List (ℕ × Update)
  lost_so_far t calls = lost (updates_of t calls) (cut_after t calls (seal_count t calls))
