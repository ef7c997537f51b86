-- The words of a line, which blanks (32) and tabs (9) separate, each with its place.
use Rattle.std.specs.Prelude.{ℕ, ◌+◌, List, [], ◌∷◌, Bool, true, false, ◌||◌, ◌==◌, filter, length}
use Rattle.std.specs.List.{slice_split}

-- a blank or a tab
abbrev pub is_blank : ℕ → Bool
is_blank b = b == 32 || b == 9

-- there is a byte in it
abbrev pub is_full : List ℕ → Bool
is_full [] = false
is_full (b ∷ bs) = true

-- a word: where it begins in its line, counted from 0, and its bytes
pub record Word : Type 0 where
  pub place : ℕ
  pub bytes : List ℕ

-- parts with one byte between each two, where the first begins at that place: of `a`, `` and `bc` from 4 on they begin at 4, 6 and 7
abbrev pub placed : ℕ → List (List ℕ) → List Word
placed place [] = []
placed place (part ∷ parts) = record { place = place; bytes = part } ∷ placed (place + length part + 1) parts

-- the words of a text that begins at that place of its line. They are the longest runs without a blank or a tab: in ` a  bc` from 0
-- on `a` at 1 and `bc` at 4
abbrev pub words_from : ℕ → List ℕ → List Word
words_from place text = filter (λ word. is_full word.bytes) (placed place (slice_split is_blank text))

-- the words of a line that are still to come, and the line's length
pub record Rest : Type 0 where
  pub words : List Word
  pub end : ℕ

-- all words of a line
abbrev pub rest_of : List ℕ → Rest
rest_of line = record { words = words_from 0 line; end = length line }
