-- The examples of the definitions of operations, computed.
use Rattle.std.proofs.Common.{◌≡◌, [], ◌∷◌, refl, None, Some}
use Rattle.file_bodies.specs.declared.ops.BodyOp.TheVariants as ops
use Rattle.file_bodies.specs.Files.{left_of, acted, all_acted}

a_put : left_of (ops.Put 5 4 (1 ∷ [])) (Some (7 ∷ 8 ∷ 9 ∷ [])) ≡ Some (7 ∷ 8 ∷ 9 ∷ 0 ∷ 1 ∷ [])
a_put = refl

a_grow : left_of (ops.Grow 5 4) (Some (7 ∷ 8 ∷ 9 ∷ [])) ≡ Some (7 ∷ 8 ∷ 9 ∷ 0 ∷ [])
a_grow = refl

a_grow_of_a_longer_file : left_of (ops.Grow 5 2) (Some (7 ∷ 8 ∷ 9 ∷ [])) ≡ Some (7 ∷ 8 ∷ 9 ∷ [])
a_grow_of_a_longer_file = refl

a_shrink : left_of (ops.Shrink 5 2) (Some (7 ∷ 8 ∷ 9 ∷ [])) ≡ Some (7 ∷ 8 ∷ [])
a_shrink = refl

a_drop : acted (λ inode. Some (7 ∷ 8 ∷ [])) (ops.Drop 5) 5 ≡ None
a_drop = refl

a_drop_of_another_file : acted (λ inode. Some (7 ∷ 8 ∷ [])) (ops.Drop 5) 6 ≡ Some (7 ∷ 8 ∷ [])
a_drop_of_another_file = refl

a_file_that_is_made : left_of (ops.Grow 5 2) None ≡ Some (0 ∷ 0 ∷ [])
a_file_that_is_made = refl

a_file_that_is_made_empty : left_of (ops.Shrink 5 2) None ≡ Some []
a_file_that_is_made_empty = refl

two_in_their_order : all_acted (λ inode. None) (ops.Grow 5 2 ∷ ops.Shrink 5 1 ∷ []) 5 ≡ Some (0 ∷ [])
two_in_their_order = refl
