-- The values in a list of options.
use Rattle.std.proofs.Common.{◌≡◌, ℕ, ◌+◌, ◌<◌, ◌≤◌, suc, zero, Bool, true, false, ◌||◌, Option, Some, None, List, [], ◌∷◌, ◌++◌, length, get_or, take, refl, ap, ◌∙◌, arith}
use Rattle.std.specs.List.{filter_map, list_any}
use Rattle.std.specs.Option.{option_to_list}
use Rattle.std.proofs.lemmas.List.{take_more, take_all, append-nil}
use Rattle.std.proofs.lemmas.List.Elements.{filter_map-append}
use Rattle.std.proofs.lemmas.List.Folds.{list_any-append}

-- the values that are there
abbrev pub somes : {X : Type 0} → List (Option X) → List X
somes xs = filter_map (λ x. x) xs

alone : {X : Type 0} (x : Option X) → somes (x ∷ []) ≡ option_to_list x
alone None = refl
alone (Some x) = refl

-- those of one place more
somes_more : {X : Type 0} (xs : List (Option X)) (i : ℕ) (d : Option X) → i < length xs → somes (take (i + 1) xs) ≡ somes (take i xs) ++ option_to_list (get_or xs i d)
somes_more {X} xs i d h =
    ap (λ (z : List (Option X)). somes z) (take_more xs i d h) ∙ filter_map-append (λ (o : Option X). o) (take i xs) (get_or xs i d ∷ []) ∙ ap (λ (z : List X). somes (take i xs) ++ z) (alone (get_or xs i d))

pub more_some : {X : Type 0} (xs : List (Option X)) (i : ℕ) (d : Option X) (y : X) → i < length xs → get_or xs i d ≡ Some y → somes (take (i + 1) xs) ≡ somes (take i xs) ++ y ∷ []
more_some {X} xs i d y h e = somes_more xs i d h ∙ ap (λ (o : Option X). somes (take i xs) ++ option_to_list o) e

pub more_none : {X : Type 0} (xs : List (Option X)) (i : ℕ) (d : Option X) → i < length xs → get_or xs i d ≡ None → somes (take (i + 1) xs) ≡ somes (take i xs)
more_none {X} xs i d h e = somes_more xs i d h ∙ ap (λ (o : Option X). somes (take i xs) ++ option_to_list o) e ∙ append-nil (somes (take i xs))

-- all of them
pub all_somes : {X : Type 0} (xs : List (Option X)) (i : ℕ) → length xs ≤ i → somes (take i xs) ≡ somes xs
all_somes {X} xs i h = ap (λ (z : List (Option X)). somes z) (take_all i xs h)

or_true : (b : Bool) → (b || true) ≡ true
or_true true = refl
or_true false = refl

-- one of them that passes a test
pub found : {X : Type 0} (p : X → Bool) (xs : List (Option X)) (i : ℕ) (d : Option X) (y : X) → i < length xs → get_or xs i d ≡ Some y → p y ≡ true → list_any p (somes xs) ≡ true
found p [] i d y h e t = absurd (omega arith)
found p (x ∷ xs) zero d y h e t = rw (e, t) refl
found p (None ∷ xs) (suc i) d y h e t = found p xs i d y (omega arith) e t
found p (Some x ∷ xs) (suc i) d y h e t = rw (found p xs i d y (omega arith) e t) (or_true (p x))

-- none of them up to a place passes it, and the next one doesn't either
pub none_more : {X : Type 0} (p : X → Bool) (xs : List (Option X)) (i : ℕ) (d : Option X) (y : X) → i < length xs → get_or xs i d ≡ Some y → p y ≡ false → list_any p (somes (take i xs)) ≡ false → list_any p (somes (take (i + 1) xs)) ≡ false
none_more p xs i d y h e t none = rw (more_some xs i d y h e, list_any-append p (somes (take i xs)) (y ∷ []), none, t) refl
