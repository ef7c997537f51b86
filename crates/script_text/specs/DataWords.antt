-- The bytes that a word of a script stands for where it is to be written: `-` for none, else pieces that are joined by `+`.
use Rattle.std.specs.Prelude.{ℕ, cond, nat_le, ◌==◌, List, [], ◌∷◌, ◌++◌, codes, length, replicate, Option, Some, None, option_map}
use Rattle.std.specs.List.{slice_split}
use Rattle.std.specs.Result.{result_ok}
use Rattle.std.specs.Str.{bytes_eq}
use Rattle.hex.specs.Hex.{decode_of, pair_value}
use Rattle.script_text.specs.Numbers.{number_of}

-- the bytes of hexadecimal digits of either case, two for each and at least two: 10 and 11 of `0a0B`
abbrev pub digits_piece : List ℕ → Option (List ℕ)
digits_piece [] = None
digits_piece (d ∷ ds) = result_ok (decode_of (d ∷ ds))

-- a byte so many times, where there is such a byte and it is at least once
abbrev pub times_piece : Option ℕ → Option ℕ → Option (List ℕ)
times_piece None count = None
times_piece (Some byte) None = None
times_piece (Some byte) (Some count) = cond (nat_le 1 count) (Some (replicate count byte)) None

-- the bytes of a piece: two digits, a `*` (42) and how often, as 7 7 7 of `07*3`; or digits alone
abbrev pub piece_bytes : List ℕ → Option (List ℕ)
piece_bytes [] = None
piece_bytes (a ∷ []) = digits_piece (a ∷ [])
piece_bytes (a ∷ b ∷ []) = digits_piece (a ∷ b ∷ [])
piece_bytes (a ∷ b ∷ c ∷ more) = cond (c == 42) (times_piece (result_ok (pair_value a b 0)) (number_of more)) (digits_piece (a ∷ b ∷ c ∷ more))

-- bytes and those behind them
abbrev pub joined : Option (List ℕ) → Option (List ℕ) → Option (List ℕ)
joined None more = None
joined (Some bytes) more = option_map (λ bs. bytes ++ bs) more

-- the bytes of pieces, where each is one
abbrev pub all_bytes : List (List ℕ) → Option (List ℕ)
all_bytes [] = Some []
all_bytes (piece ∷ pieces) = joined (piece_bytes piece) (all_bytes pieces)

-- bytes, where they are at most so many
abbrev pub few_bytes : ℕ → Option (List ℕ) → Option (List ℕ)
few_bytes most None = None
few_bytes most (Some bytes) = cond (nat_le (length bytes) most) (Some bytes) None

-- the parts of a word between the `+` (43) in it: `aa` and `bb` of `aa+bb`
abbrev pub parts_of : List ℕ → List (List ℕ)
parts_of word = slice_split (λ b. b == 43) word

-- the bytes that a word stands for, where it stands for any, and at most so many of them in all
abbrev pub data_within : ℕ → List ℕ → Option (List ℕ)
data_within most word = cond (bytes_eq word (codes "-")) (Some []) (few_bytes most (all_bytes (parts_of word)))

-- the bytes that a word stands for: 10, 11, 7, 7 and 7 of `0a0B+07*3`. There are at most 65,536
abbrev pub data_of : List ℕ → Option (List ℕ)
data_of word = data_within 65536 word
