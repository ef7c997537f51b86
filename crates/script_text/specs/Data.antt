-- The text of bytes: `-` for none, else pieces that are joined by `+`, as `01*9+0a0b`.
use Rattle.std.specs.Prelude.{ℕ, ◌+◌, cond, nat_le, ◌==◌, List, [], ◌∷◌, ◌++◌, codes, decimal, flat_map, replicate}
use Rattle.hex.specs.Hex.{encode_lower}

-- a run: a byte, and how often it stands in a row
pub record Run : Type 0 where
  pub byte : ℕ
  pub count : ℕ

-- a byte in front of runs: of 7 in front of the run 7 7 comes 7 7 7, and of 8 there come the runs 8 and 7 7
abbrev pub lengthened : ℕ → List Run → List Run
lengthened b [] = record { byte = b; count = 1 } ∷ []
lengthened b (r ∷ rs) = cond (b == r.byte) (record { byte = b; count = r.count + 1 } ∷ rs) (record { byte = b; count = 1 } ∷ r ∷ rs)

-- the runs of bytes, each as long as it goes: 7 7 8 has the runs 7 7 and 8
abbrev pub runs_of : List ℕ → List Run
runs_of [] = []
runs_of (b ∷ bs) = lengthened b (runs_of bs)

-- a piece of the text of bytes
pub data Piece : Type 0 where
  -- the digits of these bytes: `0a0b` of 10 and 11
  Digits : (bytes : List ℕ) → Piece
  -- a byte so many times: `0a*9` of 10 nine times
  Times : (byte count : ℕ) → Piece

-- the digits of bytes in front of pieces. They go into the first piece where that is digits, too, so that no two pieces of digits
-- stand side by side: of 7 in front of `0a0b` comes `070a0b`
abbrev pub digits_before : List ℕ → List Piece → List Piece
digits_before bytes [] = Digits bytes ∷ []
digits_before bytes (Digits more ∷ ps) = Digits (bytes ++ more) ∷ ps
digits_before bytes (Times byte count ∷ ps) = Digits bytes ∷ Times byte count ∷ ps

-- the pieces of runs: a run of 8 or more is one of its own, and shorter neighbours make one of digits together
abbrev pub pieces_of : List Run → List Piece
pieces_of [] = []
pieces_of (r ∷ rs) = cond (nat_le 8 r.count) (Times r.byte r.count ∷ pieces_of rs) (digits_before (replicate r.count r.byte) (pieces_of rs))

-- the text of a piece, its digits in lower case
abbrev pub piece_text : Piece → List ℕ
piece_text (Digits bytes) = encode_lower bytes
piece_text (Times byte count) = encode_lower (byte ∷ []) ++ codes "*" ++ decimal count

-- pieces behind another, each behind a `+`
abbrev pub more_text : List Piece → List ℕ
more_text pieces = flat_map (λ piece. codes "+" ++ piece_text piece) pieces

-- the text of pieces: `-` for none, else one behind the other with a `+` between each two
abbrev pub pieces_text : List Piece → List ℕ
pieces_text [] = codes "-"
pieces_text (piece ∷ pieces) = piece_text piece ++ more_text pieces

-- the text of bytes: of 1 nine times, 10 and 11 comes `01*9+0a0b`
abbrev pub data_text : List ℕ → List ℕ
data_text bytes = pieces_text (pieces_of (runs_of bytes))
