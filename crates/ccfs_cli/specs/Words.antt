-- The words of the command line, and the one line that the program writes by itself.
use Rattle.std.specs.Prelude.{ℕ, List, [], ◌∷◌, ◌++◌, codes, String, string_bytes, slice_get}
use Rattle.std.specs.declared.alloc.Global.{Global}
use Rattle.std.specs.declared.option.Option.{Option}
use Rattle.std.specs.declared.option.Option.TheVariants.{None, Some}

-- the bytes of a word, or none: of `Some "run"` the three of `run`, and `[]` of `None`
abbrev pub bytes_or_none : Option (String Global) → List ℕ
bytes_or_none None = []
bytes_or_none (Some word) = string_bytes word

-- the word at a place, or the empty one: of the words `ccfs run` at 1 `run`, and at 2 the empty one
abbrev pub place_or_empty : List (String Global) → ℕ → List ℕ
place_or_empty words place = bytes_or_none (slice_get words place)

-- there was no memory to hold the words: the line `fault: memory`
abbrev pub memory_fault_line : List ℕ
memory_fault_line = codes "fault: memory" ++ 10 ∷ []
