-- What the tests look at before they ask for a plan.
use Rattle.std.proofs.Common.{◌≡◌, ℕ, ◌+◌, ◌<◌, ◌≤◌, List, [], ◌∷◌, All, length, take, get_or, sym, subst, arith}
use Rattle.std.proofs.lemmas.List.{take_more, take_all}
use Rattle.std.proofs.lemmas.List.Elements.{All-nil, All-cons, All-append}
use Rattle.file_bodies.specs.declared.ops.BodyOp.{BodyOp}
use Rattle.block_maps.specs.Maps.{Mapped, file_at, IsWhole}

-- two files that are whole are all of two
pub two_whole : (files : List Mapped) → length files ≡ 2 → IsWhole (file_at files 0) → IsWhole (file_at files 1) → All IsWhole files
two_whole [] n a b = absurd (omega arith)
two_whole (x ∷ []) n a b = absurd (omega arith)
two_whole (x ∷ y ∷ []) n a b = All-cons IsWhole x (y ∷ []) a (All-cons IsWhole y [] b (All-nil IsWhole))
two_whole (x ∷ y ∷ z ∷ rest) n a b = absurd (omega arith)

pub all_more : (P : BodyOp → Type 0) (xs : List BodyOp) (i : ℕ) (x : BodyOp) → i < length xs → x ≡ get_or xs i x → All P (take i xs) → P x → All P (take (i + 1) xs)
all_more P xs i x lt is each one =
    subst (λ l. All P l) (sym (take_more xs i x lt)) (All-append P (take i xs) (get_or xs i x ∷ []) each (All-cons P (get_or xs i x) [] (subst P is one) (All-nil P)))

pub all_taken : (P : BodyOp → Type 0) (xs : List BodyOp) (i : ℕ) → length xs ≤ i → All P (take i xs) → All P xs
all_taken P xs i le each = subst (λ l. All P l) (take_all i xs le) each
