-- The calls of a history, and what each does to the streams. A further kind of update, or of key, has no case here: what
-- an update makes, weighs and meets is told by tree_model alone.
-- The comments share an example, which proofs/Examples computes: a makes `/a` with the serial 1, and b makes `/a/f` with
-- the serial 2. They meet in the node of `/a`.
use Rattle.std.specs.Prelude.{ℕ, ◌+◌, ◌-◌, Bool, ◌&&◌, ◌||◌, ◌==◌, nat_lt, List, [], ◌∷◌, ◌++◌, map}
use Rattle.std.specs.List.{list_any, filter}
use Rattle.std.specs.FinMap.{len}
use Rattle.stream_cuts.specs.Streams.{Step, Enter, Seal, of_stream, unsealed_after}
use Rattle.stream_cuts.specs.Forced.{streams, entering, sealing}
use Rattle.stream_cuts.specs.Amounts.{sum_over}
use Rattle.ccfs_base.specs.Limits.{transaction_limit}
use Rattle.tree_model.specs.declared.rows.Update.{Update}
use Rattle.tree_model.specs.Rows.{Rows}
use Rattle.tree_model.specs.Updates.{apply}
use Rattle.tree_model.specs.Keys.{meets}
use Rattle.tree_model.specs.Weights.{live, given_up, weight}
use Rattle.tree_model.specs.Laws.{changes_node}

-- The numbers of an image, which stay as they are: its data blocks and its inodes. Each row takes an inode, and one more
-- is the orphan directory's: so with 100 inodes there may be 99 rows.
pub record Sizes : Type 0 where
  pub data_blocks : ℕ
  pub inodes : ℕ

-- What the accounts count of an update: its weight in bytes, and the blocks and the rows that it gives up. They aren't
-- free before its stream is sealed. Making a row weighs 512 and gives up nothing.
pub record Charge : Type 0 where
  pub weight : ℕ
  pub gave_blocks : ℕ
  pub gave_rows : ℕ

-- An update with its charge.
abbrev pub Charged : Type 0
Charged = Update × Charge

-- A call, as far as it matters for streams: an update that is accepted into a stream, a sync of a stream, of a file or of
-- all, or any other call, also one that is refused.
pub data Call : Type 0 where
  Accepted : (stream : ℕ) (update : Update) → Call
  SyncStream : (stream : ℕ) → Call
  SyncFile : (id : ℕ) → Call
  SyncAll : Call
  Other : Call

-- What an update is charged, on the tree t at its place in the history: removing a file of 5,000 bytes weighs 576, and
-- gives up two blocks and one row.
abbrev pub charge : Rows → Update → Charge
charge t u = record { weight = weight t u; gave_blocks = given_up t u; gave_rows = len t - len (apply t u) }

-- Updates with their charges meet where the updates do: a and b, whatever they weigh.
abbrev pub charged_meets : Charged → Charged → Bool
charged_meets a b = meets a.0 b.0

-- The weight of the unsealed updates of the stream s: after a and b of stream 1 it is 1,024 in stream 1, and 0 in stream 2.
abbrev pub unsealed_weight : ℕ → List (ℕ × Charged) → ℕ
unsealed_weight s unsealed = sum_over (λ e. e.1.1.weight) (of_stream s unsealed)

-- The blocks that the unsealed updates of all streams give up.
abbrev pub unsealed_blocks : List (ℕ × Charged) → ℕ
unsealed_blocks unsealed = sum_over (λ e. e.1.1.gave_blocks) unsealed

-- The rows that they give up.
abbrev pub unsealed_rows : List (ℕ × Charged) → ℕ
unsealed_rows unsealed = sum_over (λ e. e.1.1.gave_rows) unsealed

-- The streams that have an unsealed update which changes the node of the file x, in rising order: with (2, b) unsealed
-- stream 2 for the serial 2, and none for the serial 1, which b only needs.
abbrev pub changers : ℕ → List (ℕ × Charged) → List ℕ
changers x unsealed = filter (λ s. list_any (λ e. e.0 == s && changes_node x e.1.0) unsealed) streams

-- The tree after a call: an accepted update makes it, and every other call leaves it.
abbrev pub tree_after : Rows → Call → Rows
tree_after t (Accepted s u) = apply t u
tree_after t (SyncStream s) = t
tree_after t (SyncFile x) = t
tree_after t SyncAll = t
tree_after t Other = t

-- The tree after all of these calls.
abbrev pub tree_after_all : Rows → List Call → Rows
tree_after_all t [] = t
tree_after_all t (call ∷ calls) = tree_after_all (tree_after t call) calls

-- A step without its charge.
abbrev pub plain_step : Step Charged → Step Update
plain_step (Enter s u) = Enter s u.0
plain_step (Seal s) = Seal s

-- Steps without their charges: Enter 1 a, Seal 1 of Enter 1 (a, charge t a), Seal 1.
abbrev pub plain : List (Step Charged) → List (Step Update)
plain l = map plain_step l

module _ (sizes : Sizes) where
  -- Before u enters the stream s, on the tree t, a limit seals s. Either what is unsealed there and u weigh more together
  -- than a transaction may: 512 made rows weigh 262,144, and one more passes it. Or the blocks that all files take after
  -- u, and those that are given up and not free yet, are more than there are: 90 after u and 11 given up are, of 100. Or
  -- the rows are, in the same way. What is given up is that of all streams before u seals any.
  abbrev pub seals_own : Rows → List (ℕ × Charged) → ℕ → Update → Bool
  seals_own t unsealed s u =
      nat_lt transaction_limit (unsealed_weight s unsealed + weight t u)
      || nat_lt sizes.data_blocks (live (apply t u) + unsealed_blocks unsealed)
      || nat_lt (sizes.inodes - 1) (len (apply t u) + unsealed_rows unsealed)

  -- The steps of a call on the tree t. An accepted update seals each other stream with an unsealed update that meets it,
  -- then its own where a limit says so, and enters: with (1, a) unsealed, b of stream 2 does Seal 1, Enter 2 b. A sync
  -- seals its stream, the streams that changed its file, or all. A stream with nothing unsealed gives no seal.
  abbrev pub call_steps : Rows → List (ℕ × Charged) → Call → List (Step Charged)
  call_steps t unsealed (Accepted s u) = entering charged_meets s (u, charge t u) (seals_own t unsealed s u) unsealed
  call_steps t unsealed (SyncStream s) = sealing (s ∷ []) unsealed
  call_steps t unsealed (SyncFile x) = sealing (changers x unsealed) unsealed
  call_steps t unsealed SyncAll = sealing streams unsealed
  call_steps t unsealed Other = []

  -- The steps of these calls, from the tree t and what is unsealed on.
  abbrev pub steps_from : Rows → List (ℕ × Charged) → List Call → List (Step Charged)
  steps_from t unsealed [] = []
  steps_from t unsealed (call ∷ calls) =
      call_steps t unsealed call ++ steps_from (tree_after t call) (unsealed_after unsealed (call_steps t unsealed call)) calls

  -- The steps of a history from the tree of opening t on, where nothing is unsealed at first, each with its charge.
  abbrev pub charged_steps : Rows → List Call → List (Step Charged)
  charged_steps t calls = steps_from t [] calls

  -- The steps of a history: of a in stream 1, b in stream 2 and a sync of all they are Enter 1 a, Seal 1, Enter 2 b,
  -- Seal 2.
  abbrev pub steps : Rows → List Call → List (Step Update)
  steps t calls = plain (charged_steps t calls)
