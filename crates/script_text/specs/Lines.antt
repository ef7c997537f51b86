-- The lines of a script: each ends with the byte 10 (a line feed) or with the end of the script.
use Rattle.std.specs.Prelude.{ℕ, List, [], ◌∷◌, cond, map, ◌==◌}

-- puts a byte in front of the first line: of `a` and the lines `b`, `c` come `ab`, `c`
abbrev pub grow : ℕ → List (List ℕ) → List (List ℕ)
grow b [] = (b ∷ []) ∷ []
grow b (x ∷ xs) = (b ∷ x) ∷ xs

-- the lines as they are cut at the line feeds: `a\n\nb` has the lines `a`, `` and `b`, and `a\n` has the line `a` alone
abbrev pub cut_lines : List ℕ → List (List ℕ)
cut_lines [] = []
cut_lines (b ∷ bs) = cond (b == 10) ([] ∷ cut_lines bs) (grow b (cut_lines bs))

-- a line without the carriage return (13) right before its end, where there is one: `a\r` becomes `a`, `a\r\r` becomes `a\r`
abbrev pub line_text : List ℕ → List ℕ
line_text [] = []
line_text (b ∷ []) = cond (b == 13) [] (b ∷ [])
line_text (b ∷ c ∷ bs) = b ∷ line_text (c ∷ bs)

-- the lines of a script, each without its end: `a\r\nb` has the lines `a` and `b`
abbrev pub lines_of : List ℕ → List (List ℕ)
lines_of text = map line_text (cut_lines text)
