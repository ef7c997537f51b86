-- Names, and the texts of paths.
use Rattle.std.specs.Prelude.{ℕ, nat_lt, ◌+◌, Bool, true, false, cond, not, ◌&&◌, ◌==◌, nat_le, Option, Some, None, List, [], ◌∷◌, length, filter, flat_map, take_while, drop}
use Rattle.std.specs.List.{list_all, position_or_len}
use Rattle.std.specs.Str.{bytes_eq}

-- a byte of a name: visible ASCII but the slash, as `a`, `.` and `#`
abbrev pub is_name_byte : ℕ → Bool
is_name_byte b = nat_le 33 b && (nat_le b 126 && not (b == 47))

-- a name has 1 to 64 such bytes, and is neither `.` nor `..`
abbrev pub is_name : List ℕ → Bool
is_name n = nat_le 1 (length n) && (nat_le (length n) 64 && (list_all is_name_byte n && (not (bytes_eq n (46 ∷ [])) && not (bytes_eq n (46 ∷ 46 ∷ [])))))

-- the bytes of a name, or none (the root has no name)
abbrev pub is_name_or_none : List ℕ → Bool
is_name_or_none [] = true
is_name_or_none (b ∷ bs) = is_name (b ∷ bs)

-- the place of the first byte that no name has, or the length where there is none: 1 for `a/b`, and 2 for `..`
abbrev pub bad_place : List ℕ → ℕ
bad_place n = position_or_len (λ b. not (is_name_byte b)) n

-- a byte put in front of the first piece
abbrev pub grow : ℕ → List (List ℕ) → List (List ℕ)
grow b [] = (b ∷ []) ∷ []
grow b (piece ∷ more) = (b ∷ piece) ∷ more

-- the pieces of a text between its slashes: `/a/b` has the pieces ``, `a` and `b`
abbrev pub pieces : List ℕ → List (List ℕ)
pieces [] = [] ∷ []
pieces (b ∷ bs) = cond (b == 47) ([] ∷ pieces bs) (grow b (pieces bs))

-- a piece that has a byte
abbrev pub is_full : List ℕ → Bool
is_full [] = false
is_full (b ∷ bs) = true

-- the names between the slashes: `a` and `b` of `/a/b`, and none of `/`
abbrev pub names_in : List ℕ → List (List ℕ)
names_in text = filter is_full (pieces text)

-- names with a slash before each: `/a/b` of `a` and `b`, and nothing of none
abbrev pub spelled : List (List ℕ) → List ℕ
spelled names = flat_map (λ name. 47 ∷ name) names

-- the text of a path by its names: `/` for none, else a slash before each
abbrev pub path_text : List (List ℕ) → List ℕ
path_text [] = 47 ∷ []
path_text (n ∷ ns) = spelled (n ∷ ns)

-- names make a path where each is a name and the text has at most 4,096 bytes
abbrev pub is_path : List (List ℕ) → Bool
is_path ns = list_all is_name ns && nat_le (length (path_text ns)) 4096

-- the path that a text spells, by its names: the names between its slashes, where they make a path and spell this text
abbrev pub path_of : List ℕ → Option (List (List ℕ))
path_of text = cond (is_path (names_in text) && bytes_eq (path_text (names_in text)) text) (Some (names_in text)) None

-- the start of the first component that is no name, in a text that begins with a slash: 3 for `/a//b`
abbrev pub component_place : List ℕ → ℕ
component_place text = length (spelled (take_while is_name (drop 1 (pieces text)))) + 1

-- the text begins with a slash
abbrev pub has_slash : List ℕ → Bool
has_slash [] = false
has_slash (b ∷ bs) = b == 47

-- where a text fails to be a path: 4,096 where it is longer, else 0 where it doesn't begin with a slash, else the start of the first component that is no name
abbrev pub bad_path_place : List ℕ → ℕ
bad_path_place text = cond (nat_lt 4096 (length text)) 4096 (cond (has_slash text) (component_place text) 0)
