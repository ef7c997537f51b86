-- The batches that the seals of a history make.
use Rattle.std.specs.Prelude.{ℕ, zero, suc, List, [], ◌∷◌, ◌++◌, reverse, flat_map, slice_index_or}
use Rattle.std.specs.FinMap.{empty}
use Rattle.stream_cuts.specs.Streams.{Step, Enter, Seal, of_stream, without}
use Rattle.stream_cuts.specs.Cuts.{seals, batch}
use Rattle.stream_cuts.specs.Amounts.{sum_over}
use Rattle.ccfs_base.specs.declared.records.Rec.{Rec}
use Rattle.file_bodies.specs.declared.ops.BodyOp.{BodyOp}
use Rattle.file_bodies.specs.declared.batches.Sealed.{Sealed}
use Rattle.delta_log.specs.Laws.{ranges_of, deltas_of}
use Rattle.tree_model.specs.declared.rows.Update.{Update}
use Rattle.tree_model.specs.declared.rows.Entry.{Entry}
use Rattle.tree_model.specs.Rows.{Rows}
use Rattle.tree_cuts.specs.Calls.{Sizes, Charged}
use Rattle.history_model.specs.Histories.{start, charged_in, steps_in}
use Rattle.image_model.specs.Changes.{all_records, changes_of}
use Rattle.update_records.specs.Operations.{ops_of}

-- the records of a built update, which are the same whatever the tree is
abbrev pub its_records : ℕ → List ℕ → Update → List Rec
its_records count inodes u = all_records count (changes_of inodes empty u)

-- those of updates, in their order, and their operations on files
abbrev pub records_of_all : ℕ → List ℕ → List (ℕ × Charged) → List Rec
records_of_all count inodes us = flat_map (λ e. its_records count inodes e.1.0) us

abbrev pub ops_of_all : List ℕ → List (ℕ × Charged) → List BodyOp
ops_of_all inodes us = flat_map (λ e. ops_of inodes e.1.0) us

-- what updates weigh together
abbrev pub weight_of_all : List (ℕ × Charged) → ℕ
weight_of_all us = sum_over (λ e. e.1.1.weight) us

-- the batch of a stream's updates with this number. Its records are the ranges and then the raises and flips, which do the same
-- as they do in the order of the updates
abbrev pub sealed_of : ℕ → List ℕ → ℕ → ℕ → List (ℕ × Charged) → Sealed
sealed_of count inodes stream number us = record {
  stream = stream;
  number = number;
  weight = weight_of_all us;
  recs = ranges_of (records_of_all count inodes us) ++ deltas_of (records_of_all count inodes us);
  ops = ops_of_all inodes us;
}

-- the batches that steps seal, where so many were sealed before and these updates are unsealed, the last first: with (1, u) unsealed,
-- Seal 1 makes the batch of u with the next number
abbrev pub sealed_in : ℕ → List ℕ → ℕ → List (ℕ × Charged) → List (Step Charged) → List Sealed
sealed_in count inodes k unsealed [] = []
sealed_in count inodes k unsealed (Enter s u ∷ l) = sealed_in count inodes k ((s, u) ∷ unsealed) l
sealed_in count inodes k unsealed (Seal s ∷ l) = sealed_of count inodes s (suc k) (reverse (of_stream s unsealed)) ∷ sealed_in count inodes (suc k) (without s unsealed) l

-- ---- by history

-- the stream of the seal behind the first k, where there is one
abbrev pub stream_at : List (ℕ × ℕ) → ℕ → ℕ
stream_at pairs k = (slice_index_or pairs k (0, 0)).0

-- the batch that takes the cut after k seals to the next one: the updates between them, under the number behind k
abbrev pub batch_at : Sizes → Rows → List ℕ → List Entry → ℕ → Sealed
batch_at sizes t inodes h k =
    sealed_of sizes.inodes inodes (stream_at (seals (steps_in sizes (start t) h)) k) (suc k) (batch (charged_in sizes (start t) h) k)

-- so many batches from the one behind k seals on
abbrev pub batches_from : Sizes → Rows → List ℕ → List Entry → ℕ → ℕ → List Sealed
batches_from sizes t inodes h k zero = []
batches_from sizes t inodes h k (suc more) = batch_at sizes t inodes h k ∷ batches_from sizes t inodes h (suc k) more
