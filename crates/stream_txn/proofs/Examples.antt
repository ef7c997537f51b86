-- The examples of the definitions of updates, computed.
use Rattle.std.proofs.Common.{◌≡◌, List, [], ◌∷◌, refl, true, false, None, Some}
use Rattle.file_bodies.specs.declared.ops.BodyOp.TheVariants as ops
use Rattle.stream_txn.specs.declared.updates.Unsealed.{Unsealed}
use Rattle.stream_txn.specs.Updates.{update_of, of_stream, without, all_but, weight_of, blocks_of, rows_of, ops_of}
use Rattle.stream_txn.specs.Kept.{next, batch_of, AreInOrder}
use Rattle.stream_txn.specs.Space.{count}

-- updates a, b and c of the streams 1, 2 and 1
abbrev three : List Unsealed
three = update_of 1 10 2 1 (ops.Drop 5 ∷ []) ∷ update_of 2 20 4 0 (ops.Drop 6 ∷ []) ∷ update_of 1 30 8 1 (ops.Drop 7 ∷ []) ∷ []

those_of_one_stream : of_stream 1 three ≡ update_of 1 10 2 1 (ops.Drop 5 ∷ []) ∷ update_of 1 30 8 1 (ops.Drop 7 ∷ []) ∷ []
those_of_one_stream = refl

those_of_the_others : without 1 three ≡ update_of 2 20 4 0 (ops.Drop 6 ∷ []) ∷ []
those_of_the_others = refl

their_weight : weight_of (of_stream 1 three) ≡ 40
their_weight = refl

all_blocks : blocks_of (all_but None three) ≡ 14
all_blocks = refl

rows_of_the_others : rows_of (all_but (Some 1) three) ≡ 0
rows_of_the_others = refl

their_operations : ops_of (of_stream 1 three) ≡ ops.Drop 5 ∷ ops.Drop 7 ∷ []
their_operations = refl

two_places : count (true ∷ false ∷ true ∷ []) ≡ 2
two_places = refl

a_number_behind_the_greatest : next 18446744073709551615 ≡ 0
a_number_behind_the_greatest = refl

two_in_order : AreInOrder 5 (batch_of 1 6 [] three ∷ batch_of 2 7 [] three ∷ []) 7
two_in_order = (refl, (refl, refl))
