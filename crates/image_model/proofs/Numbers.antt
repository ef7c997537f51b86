-- Numbers read from bytes that are known one by one.
use Rattle.std.proofs.Common.{◌≡◌, ℕ, zero, suc, ◌+◌, ◌*◌, ◌<◌, List, [], ◌∷◌, slice_index, refl, sym, ap, ◌∙◌, drop, arith}
use Rattle.std.proofs.Math.Path.{ap₂}
use Rattle.std.proofs.lemmas.List.{get_or-drop}
use Rattle.byteorder.specs.Endian.{little_from, little_number}

-- the same bytes are the same number
pub same_number : (n i j : ℕ) (xs ys : List ℕ) → ((k : ℕ) → k < n → slice_index xs (i + k) ≡ slice_index ys (j + k)) → little_from i n xs ≡ little_from j n ys
same_number zero i j xs ys same = refl
same_number (suc n) i j xs ys same =
    let here : slice_index xs i ≡ slice_index ys j =
    ap (slice_index xs) (omega arith) ∙ same 0 (omega arith) ∙ ap (slice_index ys) (omega arith) in
    let more : little_from (suc i) n xs ≡ little_from (suc j) n ys =
    same_number n (suc i) (suc j) xs ys (λ k h. ap (slice_index xs) (omega arith) ∙ same (suc k) (omega arith) ∙ ap (slice_index ys) (omega arith)) in
    ap₂ (λ a b. a + 256 * b) here more

-- zeros are 0
pub zero_number : (n i : ℕ) (xs : List ℕ) → ((k : ℕ) → k < n → slice_index xs (i + k) ≡ 0) → little_from i n xs ≡ 0
zero_number zero i xs zeros = refl
zero_number (suc n) i xs zeros =
    let here : slice_index xs i ≡ 0 = ap (slice_index xs) (omega arith) ∙ zeros 0 (omega arith) in
    let more : little_from (suc i) n xs ≡ 0 = zero_number n (suc i) xs (λ k h. ap (slice_index xs) (omega arith) ∙ zeros (suc k) (omega arith)) in
    ap₂ (λ a b. a + 256 * b) here more

-- four bytes read as the number that stands at their place
pub four_read : (place : ℕ) (bytes : List ℕ) (a b c d : ℕ) → a ≡ slice_index bytes place → b ≡ slice_index bytes (place + 1) → c ≡ slice_index bytes (place + 2) → d ≡ slice_index bytes (place + 3)
    → little_number 4 (a ∷ b ∷ c ∷ d ∷ []) ≡ little_number 4 (drop place bytes)
four_read place bytes a b c d p q r s =
    let e : slice_index (drop place bytes) 0 ≡ slice_index bytes (place + 0) = get_or-drop place bytes 0 0 in
    let zero_more : place + 0 ≡ place = omega arith in
    let first : a ≡ slice_index (drop place bytes) 0 = p ∙ ap (slice_index bytes) (sym zero_more) ∙ sym e in
    let second : b ≡ slice_index (drop place bytes) 1 = q ∙ sym (get_or-drop place bytes 1 0) in
    let third : c ≡ slice_index (drop place bytes) 2 = r ∙ sym (get_or-drop place bytes 2 0) in
    let fourth : d ≡ slice_index (drop place bytes) 3 = s ∙ sym (get_or-drop place bytes 3 0) in
    λ i. first i + 256 * (second i + 256 * (third i + 256 * (fourth i + 0)))
