-- One inode of a preorder listed, and what is still ahead.
use Rattle.std.proofs.Common.{◌≡◌, ℕ, zero, suc, ◌<◌, List, [], ◌∷◌, ◌++◌, length, refl, sym, ap, ◌∙◌, arith, append_assoc}
use Rattle.std.specs.Prelude.{map, flat_map, reverse}
use Rattle.std.proofs.lemmas.List.{reverse-append, reverse-reverse}
use Rattle.std.proofs.lemmas.Grind.{flat_map-append}
use Rattle.image_check.specs.Listed.{listed, ahead_of}

-- what an inode stands for that is ahead, with its levels
abbrev pub listed_at : (ℕ → List ℕ) → (ℕ × ℕ) → List ℕ
listed_at below s = listed below s.0 s.1

-- what all that is ahead stands for, the next one last
abbrev pub still : (ℕ → List ℕ) → List (ℕ × ℕ) → List ℕ
still below ahead = flat_map (listed_at below) (reverse ahead)

over_map : {X Y Z : Type 0} (f : Y → List Z) (g : X → Y) (xs : List X) → flat_map (λ x. f (g x)) xs ≡ flat_map f (map g xs)
over_map f g [] = refl
over_map f g (x ∷ xs) = ap (λ z. f (g x) ++ z) (over_map f g xs)

first_listed : (below : ℕ → List ℕ) (levels x : ℕ) → listed below levels x ≡ x ∷ flat_map (listed_at below) (ahead_of below levels x)
first_listed below zero x = refl
first_listed below (suc l) x = ap (λ z. x ∷ z) (over_map (listed_at below) (λ y. (l, y)) (below x))

pub next_listed : (below : ℕ → List ℕ) (ahead : List (ℕ × ℕ)) (levels x : ℕ) → still below (ahead ++ (levels, x) ∷ []) ≡ x ∷ still below (ahead ++ reverse (ahead_of below levels x))
next_listed below ahead levels x =
    let F = flat_map (listed_at below) in
    let B = ahead_of below levels x in
    ap F (reverse-append ahead ((levels, x) ∷ []))
    ∙ ap (λ z. z ++ F (reverse ahead)) (first_listed below levels x)
    ∙ ap (λ z. x ∷ z) (sym (flat_map-append (listed_at below) B (reverse ahead))
    ∙ ap (λ z. F (z ++ reverse ahead)) (sym (reverse-reverse B))
    ∙ ap F (sym (reverse-append ahead (reverse B))))

-- what was listed with what is ahead stays the same
pub one_listed : (below : ℕ → List ℕ) (was ahead now : List (ℕ × ℕ)) (levels x : ℕ) (out more all : List ℕ) → out ++ still below was ≡ all → was ≡ ahead ++ (levels, x) ∷ []
    → more ≡ out ++ x ∷ [] → now ≡ ahead ++ reverse (ahead_of below levels x) → more ++ still below now ≡ all
one_listed below was ahead now levels x out more all is popped pushed opened =
    ap (λ z. z ++ still below now) pushed ∙ append_assoc out (x ∷ []) (still below now)
    ∙ ap (λ z. out ++ (x ∷ still below z)) opened
    ∙ ap (λ z. out ++ z) (sym (next_listed below ahead levels x)) ∙ ap (λ z. out ++ still below z) (sym popped) ∙ is

-- and less is ahead
pub less_ahead : (below : ℕ → List ℕ) (was ahead now : List (ℕ × ℕ)) (levels x : ℕ) → was ≡ ahead ++ (levels, x) ∷ [] → now ≡ ahead ++ reverse (ahead_of below levels x)
    → length (still below now) < length (still below was)
less_ahead below was ahead now levels x popped opened =
    let next : length (still below was) ≡ suc (length (still below now)) = ap (λ z. length (still below z)) popped ∙ ap (λ z. length z) (next_listed below ahead levels x) ∙ ap (λ z. suc (length (still below z))) (sym opened) in
    omega arith
