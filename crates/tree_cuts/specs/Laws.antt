-- The laws of cuts of trees. t is the tree of opening, or the one at the start.
use Rattle.std.specs.Prelude.{◌≡◌, ℕ, suc, ◌≤◌, ◌≢◌, ◌⊎◌, true, false, List, [], ◌∷◌, ◌++◌, take, length}
use Rattle.std.specs.List.{AllByRecursion}
use Rattle.stream_cuts.specs.Streams.{of_stream}
use Rattle.stream_cuts.specs.Cuts.{kept, lost, IsKept, IsClosed}
use Rattle.stream_cuts.specs.States.{after, AllApply}
use Rattle.ccfs_base.specs.Limits.{transaction_limit}
use Rattle.tree_model.specs.declared.rows.Update.{Update}
use Rattle.tree_model.specs.Rows.{Rows, IsTree}
use Rattle.tree_model.specs.Updates.{apply}
use Rattle.tree_model.specs.Weights.{bytes_at}
use Rattle.tree_model.specs.Laws.{Applies, Meet, changes_node}
use Rattle.tree_cuts.specs.Calls.{Sizes, Call, SyncStream, SyncFile, SyncAll, tree_after_all, unsealed_weight}
use Rattle.tree_cuts.specs.Runs.{IsRun, updates_of, seals_of, cut_after, kept_at, tree_at_cut, batch_after, unsealed_of, seal_count, lost_so_far}

-- Each cut of a run is closed: with each kept update it keeps all earlier ones of other streams that meet it. Where b
-- makes `/a/f` and a made `/a` in another stream, no cut keeps b without a.
abbrev pub CutsAreClosed : Type 0
CutsAreClosed = (sizes : Sizes) (t : Rows) (calls : List Call) (n : ℕ) → IsRun t calls
    → IsClosed Meet (updates_of sizes t calls) (cut_after sizes t calls n)

-- The updates that a closed cut keeps apply, each at its place, and the lost ones apply behind them, with the tree of all
-- at the end: of making `/a`, `/b` and `/a/f`, with `/b` lost, `/a` and `/a/f` are made, and then `/b`.
abbrev pub KeptUpdatesApply : Type 0
KeptUpdatesApply = (t : Rows) (h : List (ℕ × Update)) (c : ℕ → ℕ) → AllApply Applies apply t h → IsClosed Meet h c
    → AllApply Applies apply t (kept h c)
    × AllApply Applies apply (after apply t (kept h c)) (lost h c)
    × (after apply (after apply t (kept h c)) (lost h c) ≡ after apply t h)

-- More calls change neither the first n seals, nor the cut after them, nor what it keeps, nor its tree, for each n up to
-- the number of seals.
abbrev pub LongerHistoriesKeep : Type 0
LongerHistoriesKeep = (sizes : Sizes) (t : Rows) (calls more : List Call) (n : ℕ) → n ≤ seal_count sizes t calls
    → (take n (seals_of sizes t (calls ++ more)) ≡ take n (seals_of sizes t calls))
    × (cut_after sizes t (calls ++ more) n ≡ cut_after sizes t calls n)
    × (kept_at sizes t (calls ++ more) n ≡ kept_at sizes t calls n)
    × (tree_at_cut sizes t (calls ++ more) n ≡ tree_at_cut sizes t calls n)

-- One seal more in a run puts the updates of one batch on the tree of the cut, and each of them applies at its place.
abbrev pub NextCutIsOneBatchOn : Type 0
NextCutIsOneBatchOn = (sizes : Sizes) (t : Rows) (calls : List Call) (n : ℕ) → IsRun t calls
    → AllApply Applies apply (tree_at_cut sizes t calls n) (batch_after sizes t calls n)
    × (tree_at_cut sizes t calls (suc n) ≡ after apply (tree_at_cut sizes t calls n) (batch_after sizes t calls n))

-- Each update that a cut of a run keeps applies at its place, and the tree of the cut is a tree, where that of opening
-- is one.
abbrev pub CutsAreTrees : Type 0
CutsAreTrees = (sizes : Sizes) (t : Rows) (calls : List Call) (n : ℕ) → IsTree t → IsRun t calls
    → IsTree (tree_at_cut sizes t calls n) × AllApply Applies apply t (kept_at sizes t calls n)

-- An update e that a closed cut keeps, and that changes a file, finds the same bytes in it at its place in the cut as at
-- its place in the whole history, where all the updates before it were made: of writes to `/a`, `/b` and `/a`, with the
-- one to `/b` lost, the last one finds what the first one wrote.
abbrev pub ChangedFilesHaveTheirBytes : Type 0
ChangedFilesHaveTheirBytes = (t : Rows) (h : List (ℕ × Update)) (c : ℕ → ℕ) → AllApply Applies apply t h → IsClosed Meet h c
    → (before rest : List (ℕ × Update)) (e : ℕ × Update) (x : ℕ) → h ≡ before ++ e ∷ rest → IsKept c before e
    → changes_node x e.1 ≡ true → bytes_at (after apply t (kept before c)) x ≡ bytes_at (after apply t before) x

-- Right after a sync of a stream, the cut after all seals so far loses no update of that stream: with `/a` made in stream
-- 1 and `/b` in stream 2, a sync of stream 1 keeps `/a`.
abbrev pub SyncedStreamsAreKept : Type 0
SyncedStreamsAreKept = (sizes : Sizes) (t : Rows) (calls : List Call) (s : ℕ)
    → AllByRecursion (λ e. e.0 ≢ s) (lost_so_far sizes t (calls ++ SyncStream s ∷ []))

-- Right after a sync of a file, it loses no update that changes the node of that file, in any stream.
abbrev pub SyncedFilesAreKept : Type 0
SyncedFilesAreKept = (sizes : Sizes) (t : Rows) (calls : List Call) (x : ℕ) → IsRun t calls
    → AllByRecursion (λ e. changes_node x e.1 ≡ false) (lost_so_far sizes t (calls ++ SyncFile x ∷ []))

-- Right after a sync of all, the tree of that cut is the tree after all calls.
abbrev pub SyncOfAllKeepsAll : Type 0
SyncOfAllKeepsAll = (sizes : Sizes) (t : Rows) (calls : List Call) → IsRun t calls
    → tree_at_cut sizes t (calls ++ SyncAll ∷ []) (seal_count sizes t (calls ++ SyncAll ∷ [])) ≡ tree_after_all t calls

-- The unsealed updates of a stream weigh at most what a transaction may, unless they are one update alone.
abbrev pub TransactionsAreLight : Type 0
TransactionsAreLight = (sizes : Sizes) (t : Rows) (calls : List Call) (s : ℕ)
    → (unsealed_weight s (unsealed_of sizes t calls) ≤ transaction_limit) ⊎ (length (of_stream s (unsealed_of sizes t calls)) ≡ 1)
