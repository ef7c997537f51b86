-- The updates that are not sealed, and the sums over them.
use Rattle.std.specs.Prelude.{ℕ, ◌==◌, Bool, true, false, not, List, [], ◌∷◌, Option, None, Some, filter, flat_map}
use Rattle.std.specs.List.{sum_by}
use Rattle.file_bodies.specs.declared.ops.BodyOp.{BodyOp}
use Rattle.stream_txn.specs.declared.updates.Unsealed.{Unsealed}

-- the update that a call of `add` adds
abbrev pub update_of : ℕ → ℕ → ℕ → ℕ → List BodyOp → Unsealed
update_of stream weight blocks rows ops = record { stream = stream; weight = weight; gave_blocks = blocks; gave_rows = rows; ops = ops }

-- the updates of a stream, in their order: of updates a, b, c of the streams 1, 2, 1 those of stream 1 are a and c
abbrev pub of_stream : ℕ → List Unsealed → List Unsealed
of_stream stream unsealed = filter (λ update. update.stream == stream) unsealed

-- the updates of the other streams, in their order: of those above the ones without stream 1 are b
abbrev pub without : ℕ → List Unsealed → List Unsealed
without stream unsealed = filter (λ update. not (update.stream == stream)) unsealed

-- the updates without those of the stream that is named, if one is
abbrev pub all_but : Option ℕ → List Unsealed → List Unsealed
all_but None unsealed = unsealed
all_but (Some stream) unsealed = without stream unsealed

-- whether there is an update
abbrev pub has_any : List Unsealed → Bool
has_any [] = false
has_any (update ∷ rest) = true

-- what updates weigh together
abbrev pub weight_of : List Unsealed → ℕ
weight_of unsealed = sum_by (λ update. update.weight) unsealed

-- how many blocks they gave up together
abbrev pub blocks_of : List Unsealed → ℕ
blocks_of unsealed = sum_by (λ update. update.gave_blocks) unsealed

-- how many rows they gave up together
abbrev pub rows_of : List Unsealed → ℕ
rows_of unsealed = sum_by (λ update. update.gave_rows) unsealed

-- their operations on files, those of the first update first
abbrev pub ops_of : List Unsealed → List BodyOp
ops_of unsealed = flat_map (λ update. update.ops) unsealed
