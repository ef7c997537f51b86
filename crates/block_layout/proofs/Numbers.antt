-- What bytes are, where they are known to read as a number.
use Rattle.std.proofs.Common.{◌≡◌, ℕ, ◌+◌, ◌*◌, ◌/◌, ◌%◌, ◌<◌, ◌≤◌, List, [], ◌∷◌, ◌++◌, ap, ◌∙◌, length, drop, get_or, arith}
use Rattle.std.proofs.lemmas.List.{drop-drop, length-drop, get_or-drop}
use Rattle.byteorder.specs.Endian.{little_bytes, little_number}
use Rattle.block_layout.specs.Super.{number_at}

-- four bytes are those of the number that they read as
four_bytes : (a b c d : ℕ) (rest : List ℕ) → a < 256 → b < 256 → c < 256 → d < 256 → a ∷ b ∷ c ∷ d ∷ rest ≡ little_bytes 4 (a + 256 * (b + 256 * (c + 256 * (d + 0)))) ++ rest
four_bytes a b c d rest p q r s =
    let n : ℕ = a + 256 * (b + 256 * (c + 256 * (d + 0))) in
    let first : a ≡ n % 256 = omega arith in
    let second : b ≡ n / 256 % 256 = omega arith in
    let third : c ≡ n / 65536 % 256 = omega arith in
    let fourth : d ≡ n / 16777216 % 256 = omega arith in
    λ i. first i ∷ second i ∷ third i ∷ fourth i ∷ rest

-- the first four bytes are those of the number that they read as
number_in_front : (xs : List ℕ) → 4 ≤ length xs → ((i : ℕ) → get_or xs i 0 < 256) → xs ≡ little_bytes 4 (little_number 4 xs) ++ drop 4 xs
number_in_front [] long fits = absurd (omega arith)
number_in_front (a ∷ []) long fits = absurd (omega arith)
number_in_front (a ∷ b ∷ []) long fits = absurd (omega arith)
number_in_front (a ∷ b ∷ c ∷ []) long fits = absurd (omega arith)
number_in_front (a ∷ b ∷ c ∷ d ∷ rest) long fits = four_bytes a b c d rest (fits 0) (fits 1) (fits 2) (fits 3)

-- from a place on stand the bytes of the number that is read there
pub number_stands : (place n : ℕ) (bytes : List ℕ) → place + 4 ≤ length bytes → ((i : ℕ) → get_or bytes i 0 < 256) → number_at place bytes ≡ n → drop place bytes ≡ little_bytes 4 n ++ drop (place + 4) bytes
number_stands place n bytes long fits read =
    let behind = length-drop place bytes in
    number_in_front (drop place bytes) (omega arith) (λ i. rw get_or-drop (fits (place + i)))
    ∙ ap (λ z. little_bytes 4 z ++ drop 4 (drop place bytes)) read
    ∙ ap (λ z. little_bytes 4 n ++ z) (drop-drop 4 place bytes)
