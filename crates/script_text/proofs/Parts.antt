-- Bytes so far, and those of the pieces that follow.
use Rattle.std.proofs.Common.{◌≡◌, ℕ, suc, ◌+◌, ◌-◌, ◌*◌, ◌/◌, ◌<◌, ◌≤◌, Bool, true, false, codes, eqb, nat_le, List, [], ◌∷◌, ◌++◌, length, take, drop, get_or, slice_index, refl, sym, ◌∙◌, ap, arith, append_assoc, append-nil, Result, Ok, Err, length-append, Option, Some, None, position, option_map}
use Rattle.std.specs.List.{position_or_len}
use Rattle.std.proofs.lemmas.Bool.Decides.{nat_tests}
use Rattle.std.specs.Result.{result_ok}
use Rattle.std.specs.Str.{bytes_eq}
use Rattle.std.proofs.lemmas.List.Splits.{slice_split_first}
use Rattle.hex.specs.Hex.{decode_of, decode_pairs, decode_sized, pair_value, ◌>>=◌}
use Rattle.hex.specs.declared.error.FromHexError.{FromHexError}
use Rattle.hex.proofs.HexLemmas.{decode_of-ok}
use Rattle.script_text.specs.DataWords.{all_bytes, digits_piece, data_within, few_bytes, joined, parts_of, piece_bytes}
use Rattle.script_text.proofs.Cuts.{position-cases}

-- no bytes in front
pub joined-nothing : (bytes : Option (List ℕ)) → joined (Some []) bytes ≡ bytes
joined-nothing None = refl
joined-nothing (Some bs) = refl

-- bytes, then those of a piece, and then those of more
pub joined_assoc : (bytes : List ℕ) (piece more : Option (List ℕ)) → joined (joined (Some bytes) piece) more ≡ joined (Some bytes) (joined piece more)
joined_assoc bytes None more = refl
joined_assoc bytes (Some p) None = refl
joined_assoc bytes (Some p) (Some m) = rw append_assoc

-- what are too many bytes, or none at all, stays so with more behind them
pub few_bytes-more : (most : ℕ) (bytes more : Option (List ℕ)) → few_bytes most bytes ≡ None → few_bytes most (joined bytes more) ≡ None
few_bytes-more most None more h = refl
few_bytes-more most (Some bs) None h = refl
few_bytes-more most (Some bs) (Some ms) h = grind (arith, nat_tests, length-append bs ms)

-- few bytes are those that they are
pub few_bytes-some : (most : ℕ) (bytes : Option (List ℕ)) (bs : List ℕ) → few_bytes most bytes ≡ Some bs → (bytes ≡ Some bs) × (length bs ≤ most)
few_bytes-some most None bs h = cc
few_bytes-some most (Some xs) bs h = grind (arith, nat_tests)

-- a part more is read, and leaves the bytes few
pub all_bytes-more : (most : ℕ) (all parts behind : List (List ℕ)) (part bytes more : List ℕ) → all_bytes all ≡ joined (Some bytes) (all_bytes parts) → parts ≡ part ∷ behind → few_bytes most (joined (Some bytes) (piece_bytes part)) ≡ Some more → (all_bytes all ≡ joined (Some more) (all_bytes behind)) × (length more ≤ most)
all_bytes-more most all parts behind part bytes more h p f =
    let s = few_bytes-some most (joined (Some bytes) (piece_bytes part)) more f in
    (h ∙ ap (λ ps. joined (Some bytes) (all_bytes ps)) p ∙ sym (joined_assoc bytes (piece_bytes part) (all_bytes behind)) ∙ ap (λ x. joined x (all_bytes behind)) s.0, s.1)

-- a part is no piece, or leaves too many bytes
pub all_bytes-refused : (most : ℕ) (all parts : List (List ℕ)) (part bytes : List ℕ) → all_bytes all ≡ joined (Some bytes) (all_bytes parts) → take 1 parts ≡ part ∷ [] → few_bytes most (joined (Some bytes) (piece_bytes part)) ≡ None → few_bytes most (all_bytes all) ≡ None
all_bytes-refused most all [] part bytes h p f = cc
all_bytes-refused most all (x ∷ xs) part bytes h p f =
    let e : x ≡ part = cc in
    ap (few_bytes most) (h ∙ ap (λ y. joined (Some bytes) (joined (piece_bytes y) (all_bytes xs))) e ∙ sym (joined_assoc bytes (piece_bytes part) (all_bytes xs))) ∙ few_bytes-more most (joined (Some bytes) (piece_bytes part)) (all_bytes xs) f

-- a word's parts, as the code finds the first
pub parts_of-cut : (xs : List ℕ) (i : ℕ) → Some i ≡ position (λ b. eqb b 43) xs → parts_of xs ≡ take i xs ∷ parts_of (drop (i + 1) xs)
parts_of-cut xs i h =
    let f = position-cases (λ b. eqb b 43) xs (Some i) h in
    rw f.0 (slice_split_first (λ b. eqb b 43) xs 0 f.1)

parts_of-none-cons : (b : ℕ) (bs : List ℕ) (t : Bool) → eqb b 43 ≡ t → length (b ∷ bs) ≤ position_or_len (λ x. eqb x 43) (b ∷ bs) → (length bs ≤ position_or_len (λ x. eqb x 43) bs → parts_of bs ≡ bs ∷ []) → parts_of (b ∷ bs) ≡ (b ∷ bs) ∷ []
parts_of-none-cons b bs true e h w = let h' : length (b ∷ bs) ≤ 0 = rw e at h in absurd (omega arith)
parts_of-none-cons b bs false e h w =
    let h' : suc (length bs) ≤ 1 + position_or_len (λ x. eqb x 43) bs = rw e at h in
    rw (e, w (omega arith))

parts_of-none : (xs : List ℕ) → length xs ≤ position_or_len (λ b. eqb b 43) xs → parts_of xs ≡ xs ∷ []
parts_of-none [] h = refl
parts_of-none (b ∷ bs) h = parts_of-none-cons b bs (eqb b 43) refl h (parts_of-none bs)

pub parts_of-last : (xs : List ℕ) → None ≡ position (λ b. eqb b 43) xs → parts_of xs ≡ xs ∷ []
parts_of-last xs h = parts_of-none xs (position-cases (λ b. eqb b 43) xs None h)

-- a piece of digits, where it is one
pub piece_bytes-digits : (xs : List ℕ) → (2 < length xs → slice_index xs 2 ≡ 42 → ⊥) → piece_bytes xs ≡ digits_piece xs
piece_bytes-digits [] h = refl
piece_bytes-digits (a ∷ []) h = refl
piece_bytes-digits (a ∷ b ∷ []) h = refl
piece_bytes-digits (a ∷ b ∷ c ∷ xs) h = grind (arith, nat_tests)

-- digits that would be too many bytes
digits_long-decoded : (most : ℕ) (out digits : List ℕ) (r : Result (List ℕ) FromHexError) → decode_of digits ≡ r → length out ≤ most → most - length out < length digits / 2 → few_bytes most (option_map (λ bs. out ++ bs) (result_ok r)) ≡ None
digits_long-decoded most out digits (Err e) d l h = refl
digits_long-decoded most out digits (Ok bytes) d l h =
    let t = decode_of-ok digits bytes d in
    let n : length digits ≡ 2 * length bytes = t.2 in
    let a = length-append out bytes in
    let m : most < length (out ++ bytes) = omega arith in
    grind (arith, nat_tests)

pub digits_long : (most : ℕ) (out digits : List ℕ) → length out ≤ most → most - length out < length digits / 2 → few_bytes most (option_map (λ bs. out ++ bs) (digits_piece digits)) ≡ None
digits_long most out [] l h = refl
digits_long most out (d ∷ ds) l h = digits_long-decoded most out (d ∷ ds) (decode_of (d ∷ ds)) refl l h

-- digits that are few enough bytes
pub digits_fit : (most : ℕ) (out digits bytes : List ℕ) → 0 < length digits → decode_of digits ≡ Ok bytes → length out ≤ most → length digits / 2 ≤ most - length out → few_bytes most (option_map (λ bs. out ++ bs) (digits_piece digits)) ≡ Some (out ++ bytes)
digits_fit most out [] bytes s d l h = absurd (omega arith)
digits_fit most out (x ∷ xs) bytes s d l h =
    let t = decode_of-ok (x ∷ xs) bytes d in
    let n : length (x ∷ xs) ≡ 2 * length bytes = t.2 in
    let a = length-append out bytes in
    let m : length (out ++ bytes) ≤ most = omega arith in
    let b : nat_le (length (out ++ bytes)) most ≡ true = grind (arith, nat_tests) in
    rw (d, b)

-- the byte of two digits
pair_bytes : (p : Result ℕ FromHexError) → result_ok (p >>= (λ byte. Ok (byte ∷ []))) ≡ option_map (λ byte. byte ∷ []) (result_ok p)
pair_bytes (Ok byte) = refl
pair_bytes (Err e) = refl

pub decoded_pair : (high low : ℕ) → result_ok (decode_sized (high ∷ low ∷ []) 1) ≡ option_map (λ byte. byte ∷ []) (result_ok (pair_value high low 0))
unfolding decode_pairs
decoded_pair high low = pair_bytes (pair_value high low 0)

only_byte : (byte : Option ℕ) (bytes : List ℕ) → option_map (λ b. b ∷ []) byte ≡ Some bytes → Some (get_or bytes 0 0) ≡ byte
only_byte None bytes h = cc
only_byte (Some b) bytes h = let e : bytes ≡ b ∷ [] = cc in rw e

no_byte : (byte : Option ℕ) → option_map (λ b. b ∷ []) byte ≡ None → None ≡ byte
no_byte None h = refl
no_byte (Some b) h = cc

pub byte_some : (high low : ℕ) (bytes : List ℕ) → Some bytes ≡ result_ok (decode_sized (high ∷ low ∷ []) 1) → Some (get_or bytes 0 0) ≡ result_ok (pair_value high low 0)
byte_some high low bytes h = only_byte (result_ok (pair_value high low 0)) bytes (sym (decoded_pair high low) ∙ sym h)

pub byte_none : (high low : ℕ) → None ≡ result_ok (decode_sized (high ∷ low ∷ []) 1) → None ≡ result_ok (pair_value high low 0)
byte_none high low h = no_byte (result_ok (pair_value high low 0)) (sym (decoded_pair high low) ∙ sym h)

-- no digits
pub digits_empty : (most : ℕ) (out digits : List ℕ) → length digits ≡ 0 → few_bytes most (option_map (λ bs. out ++ bs) (digits_piece digits)) ≡ None
digits_empty most out [] h = refl
digits_empty most out (d ∷ ds) h = absurd (omega arith)

-- a word that stands for no bytes
pub data_within-none : (most : ℕ) (word dash : List ℕ) → false ≡ bytes_eq word dash → dash ≡ codes "-" → few_bytes most (all_bytes (parts_of word)) ≡ None → None ≡ data_within most word
data_within-none most word dash b d h =
    let e : bytes_eq word (codes "-") ≡ false = ap (bytes_eq word) (sym d) ∙ sym b in
    rw (e, h)

-- a word whose last part was read
pub data_within-last : (most : ℕ) (word dash : List ℕ) (parts : List (List ℕ)) (part bytes more : List ℕ) → false ≡ bytes_eq word dash → dash ≡ codes "-" → all_bytes (parts_of word) ≡ joined (Some bytes) (all_bytes parts) → parts ≡ part ∷ [] → few_bytes most (joined (Some bytes) (piece_bytes part)) ≡ Some more → (Some more ≡ data_within most word) × (length more ≤ most)
data_within-last most word dash parts part bytes more b d h p f =
    let e : bytes_eq word (codes "-") ≡ false = ap (bytes_eq word) (sym d) ∙ sym b in
    let m = all_bytes-more most (parts_of word) parts [] part bytes more h p f in
    let n = append-nil more in
    let l : nat_le (length more) most ≡ true = grind (arith, nat_tests, m.1) in
    (rw (e, m.0, n, l), m.1)
