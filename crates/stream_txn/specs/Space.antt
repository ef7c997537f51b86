-- The memory of the queue, and of the places that were made in it.
use Rattle.std.specs.Prelude.{◌≡◌, ℕ, ◌+◌, ◌≤◌, max, Bool, true, false, List, [], ◌∷◌, length, map, Option, None, Some, is_some, slice_index_or, Vec, vec_items, vec_capacity}
use Rattle.file_bodies.specs.declared.batches.Sealed.{Sealed}
use Rattle.stream_txn.specs.declared.accounts.Account.{Account}
use Rattle.stream_txn.specs.declared.updates.Unsealed.{Unsealed}
use Rattle.stream_txn.specs.Held.{KeptOps}
use Rattle.stream_txn.specs.Kept.{TxnLists, AreTxnsOf, AreInOrder}

-- a place is an empty list with memory for a batch of each stream
abbrev pub IsPlace : {Z : Type 0} → Option (Vec Sealed Z) → Type 0
IsPlace None = Unit {0}
IsPlace (Some place) = (vec_items place ≡ []) × (64 ≤ vec_capacity place)

-- how many streams have a place: of true, false, true it is 2
abbrev pub count : List Bool → ℕ
count [] = 0
count (true ∷ rest) = count rest + 1
count (false ∷ rest) = count rest

-- the fields as a contract sees them
abbrev pub kept_in : {Z : Type 0} → List Account → ℕ → ℕ → KeptOps → List (Option (Vec Sealed Z)) → ℕ → List Sealed → TxnLists
kept_in accounts blocks rows ops places seals queue = record {
  accounts = accounts;
  ops = ops.logs;
  places = map (λ place. is_some place) places;
  gave_blocks = blocks;
  gave_rows = rows;
  seals = seals;
  queue = queue;
  spaces = ops.spaces;
}

-- The sums are those of some updates, and the numbers of the batches that wait are in order up to the last. The queue or each
-- place has memory for the batches that wait and one of each stream that has a place: where 2 wait and 3 streams have a place,
-- for 5.
pub record IsHeld {Z : Type 0} (kept : TxnLists) (places : List (Option (Vec Sealed Z))) (capacity : ℕ) : Type 0 where
  pub streams : length kept.ops ≡ 64
  pub sums : (unsealed : List Unsealed) × AreTxnsOf kept unsealed
  pub order : (first : ℕ) × AreInOrder first kept.queue kept.seals
  pub own : (stream : ℕ) → IsPlace (slice_index_or places stream None)
  pub room : length kept.queue + count kept.places ≤ max capacity 64
