-- What a path and the names still to come keep true.
use Rattle.std.specs.Prelude.{◌≡◌, ◌==◌, ℕ, Bool, true, Some, List, [], ◌∷◌, drop}
use Rattle.std.specs.List.{list_all, position_or_len, before_first}
use Rattle.ccfs_base.specs.Names.{is_name, names_in, spelled, path_of}

-- the text spells a path
abbrev pub IsPathText : List ℕ → Type 0
IsPathText text = path_of text ≡ Some (names_in text)

-- a text of names alone, each behind a slash: `/a/b` and the empty text
pub record IsSpelled (text : List ℕ) : Type 0 where
  pub each : list_all is_name (names_in text) ≡ true
  pub whole : spelled (names_in text) ≡ text

-- the text is empty or begins with a slash
abbrev pub is_slashed : List ℕ → Bool
is_slashed [] = true
is_slashed (b ∷ bs) = b == 47

-- the first component of a text that begins with a slash: `a` of `/a/b`
abbrev pub first_component : List ℕ → List ℕ
first_component text = before_first (λ b. b == 47) (drop 1 text)

-- what stands behind the first component: `/b` of `/a/b`
abbrev pub behind_component : List ℕ → List ℕ
behind_component text = drop (position_or_len (λ b. b == 47) (drop 1 text)) (drop 1 text)
