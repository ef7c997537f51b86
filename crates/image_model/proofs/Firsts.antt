-- The first check of a list that fails.
use Rattle.std.proofs.Common.{◌≡◌, ℕ, suc, ◌+◌, ◌<◌, ◌≤◌, List, length, get_or, drop, ap, ◌∙◌, arith, drop-cons}
use Rattle.std.specs.Prelude.{Option, Some, None}
use Rattle.std.proofs.lemmas.List.{drop_all}
use Rattle.image_model.specs.declared.check.Check.{Check}
use Rattle.image_model.specs.Checks.{first_of, or_next}

split : (f : Check → Option ℕ) (xs : List Check) (k : ℕ) (d : Check) → k < length xs → first_of f (drop k xs) ≡ or_next (get_or xs k d) (f (get_or xs k d)) (first_of f (drop (k + 1) xs))
split f xs k d h =
    let one : suc k ≡ k + 1 = omega arith in
    ap (first_of f) (drop-cons xs k d h) ∙ ap (λ n. or_next (get_or xs k d) (f (get_or xs k d)) (first_of f (drop n xs))) one

pub passed : (f : Check → Option ℕ) (xs : List Check) (k : ℕ) (d : Check) → k < length xs → f (get_or xs k d) ≡ None → first_of f (drop k xs) ≡ first_of f (drop (k + 1) xs)
passed f xs k d h none = split f xs k d h ∙ ap (λ o. or_next (get_or xs k d) o (first_of f (drop (k + 1) xs))) none

pub failed : (f : Check → Option ℕ) (xs : List Check) (k block : ℕ) (d : Check) → k < length xs → f (get_or xs k d) ≡ Some block → first_of f (drop k xs) ≡ Some (get_or xs k d, block)
failed f xs k block d h some = split f xs k d h ∙ ap (λ o. or_next (get_or xs k d) o (first_of f (drop (k + 1) xs))) some

pub all_passed : (f : Check → Option ℕ) (xs : List Check) (k : ℕ) → length xs ≤ k → first_of f (drop k xs) ≡ None
all_passed f xs k h = ap (first_of f) (drop_all k xs h)
