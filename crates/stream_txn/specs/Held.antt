-- What the memory holds: a list of operations for each stream.
use Rattle.std.specs.Prelude.{ℕ, ◌+◌, ◌≤◌, max, List, [], ◌++◌, map, length, slice_index_or, slice_set, Vec, vec_items, vec_capacity}
use Rattle.file_bodies.specs.declared.ops.BodyOp.{BodyOp}

-- The operations of each stream, those of stream 0 first, and how many its memory has places for.
pub record KeptOps : Type 0 where
  pub logs : List (List BodyOp)
  pub spaces : List ℕ

-- the operations of each stream, without the memory that they lie in
abbrev pub ops_in : {Z : Type 0} → List (Vec BodyOp Z) → List (List BodyOp)
ops_in logs = map (λ log. vec_items log) logs

-- how many operations the memory of each stream has places for
abbrev pub places_of : {Z : Type 0} → List (Vec BodyOp Z) → List ℕ
places_of logs = map (λ log. vec_capacity log) logs

-- one list of several, and none past the last: of [[a], [b, c]] list 1 is [b, c], and list 2 is []
abbrev pub ops_at : List (List BodyOp) → ℕ → List BodyOp
ops_at lists at = slice_index_or lists at []

-- the lists with more operations in one of them: [[a], [b]] with [c, d] in list 1 is [[a], [b, c, d]]
abbrev pub with_ops : List (List BodyOp) → ℕ → List BodyOp → List (List BodyOp)
with_ops lists at ops = slice_set lists at (ops_at lists at ++ ops)

-- one number of several, and 0 past the last: of [4, 7] number 1 is 7, and number 2 is 0
abbrev pub number_at : List ℕ → ℕ → ℕ
number_at numbers at = slice_index_or numbers at 0

-- no number has become smaller: from [1, 2] to [1, 3] none has
abbrev pub NoneFell : List ℕ → List ℕ → Type 0
NoneFell old new = (at : ℕ) → number_at old at ≤ number_at new at

-- what is held, as a contract sees it
abbrev pub kept_ops : List (List BodyOp) → List ℕ → KeptOps
kept_ops logs spaces = record { logs = logs; spaces = spaces }

-- So many operations of one update find room behind those of a stream: its memory has places for them, or it has no operations,
-- so that the list that comes may stand for its own. With 3 operations and 5 places there is room for 2. Without any there is
-- room for any number, as behind a seal.
abbrev pub HasRoom : List (List BodyOp) → List ℕ → ℕ → ℕ → Type 0
HasRoom logs spaces stream count = length (ops_at logs stream) + count ≤ max (number_at spaces stream) count
