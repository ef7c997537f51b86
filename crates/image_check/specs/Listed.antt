-- Lists of inodes in preorder.
use Rattle.std.specs.Prelude.{ℕ, zero, suc, List, [], ◌∷◌, map, flat_map}

-- x and what is below it, in preorder, at most that many levels down, where `below` tells what stands right below each. Of
-- 2 and 5 below 0, and 3 below 2, two levels down from 0 they are 0 2 3 5, and one level down 0 2 5
abbrev pub listed : (ℕ → List ℕ) → ℕ → ℕ → List ℕ
listed below zero x = x ∷ []
listed below (suc levels) x = x ∷ flat_map (listed below levels) (below x)

-- what is still to be listed right below x, each with the levels below it: two levels down from 0 they are (1, 2) and (1, 5)
abbrev pub ahead_of : (ℕ → List ℕ) → ℕ → ℕ → List (ℕ × ℕ)
ahead_of below zero x = []
ahead_of below (suc levels) x = map (λ y. (levels, y)) (below x)
