-- What operations take, computed for small files.
use Rattle.std.proofs.Common.{◌≡◌, ℕ, List, [], ◌∷◌, replicate, refl}
use Rattle.std.specs.Prelude.{Some, None}
use Rattle.file_bodies.specs.declared.ops.BodyOp.TheVariants as ops
use Rattle.front_laws.specs.Covers.{places_put, below_the_end, touched, op_size, ops_size}

abbrev five : List ℕ
five = 1 ∷ 2 ∷ 3 ∷ 4 ∷ 5 ∷ []

abbrev ten : List ℕ
ten = replicate 10 7

-- ten bytes at 8 in a file of 5, the gap of 3 included
ten_behind_a_gap : places_put 5 (ops.Put 9 8 ten) ≡ (5, 18)
ten_behind_a_gap = refl

what_is_in_its_page : below_the_end 5 (5, 5000) ≡ (5, 4096)
what_is_in_its_page = refl

two_pages : touched (4000, 5000) ≡ 2
two_pages = refl

one_page : touched (0, 4096) ≡ 1
one_page = refl

no_page : touched (5, 5) ≡ 0
no_page = refl

-- ten bytes, and 12 for the page that they are put into
over_a_file : op_size (Some five) (ops.Put 9 0 ten) ≡ 22
over_a_file = refl

-- the page is a new one, and it is its block that counts
in_a_new_file : op_size None (ops.Put 9 0 ten) ≡ 32
in_a_new_file = refl

in_an_empty_file : op_size (Some []) (ops.Put 9 0 ten) ≡ 32
in_an_empty_file = refl

made : op_size None (ops.Grow 9 0) ≡ 0
made = refl

dropped : op_size (Some five) (ops.Drop 9) ≡ 32
dropped = refl

-- a file that is made, filled and dropped gains a block and gives it up
one_after_another : ops_size (λ inode. None) (ops.Grow 9 0 ∷ ops.Put 9 0 ten ∷ ops.Drop 9 ∷ []) ≡ 64
one_after_another = refl
