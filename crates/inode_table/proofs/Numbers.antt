-- A number of n bytes has one spelling: bytes that read as it are its bytes.
use Rattle.std.proofs.Common.{◌≡◌, ℕ, zero, suc, ◌+◌, ◌*◌, ◌/◌, ◌^◌, ◌<◌, ◌≤◌, List, [], ◌∷◌, refl, sym, ap, ◌∙◌, length, take, get_or, arith, lit<}
use Rattle.std.proofs.Math.Nat.{mod-lt}
use Rattle.std.proofs.lemmas.List.{append-nil, take_all}
use Rattle.std.specs.Int.{byte_at, bytes_low_first}
use Rattle.byteorder.specs.Endian.{little_bytes, little_number}
use Rattle.byteorder.specs.Numbers.{little_from-cons, little_from-lt, little_number-reads_back, length-bytes_low_first}

-- each number in the list is below 256
pub record AreBytes (bytes : List ℕ) : Type 0 where
  pub below : (i : ℕ) → get_or bytes i 0 < 256

-- the lowest byte stands in front, and the rest of the number behind it
low_first : (n a : ℕ) (xs : List ℕ) → little_number (suc n) (a ∷ xs) ≡ a + 256 * little_number n xs
low_first n a xs = ap (λ z. a + 256 * z) (little_from-cons 0 n a xs)

-- two lists of bytes that read as the same number have the same first bytes
same_spelling : (n : ℕ) (xs ys : List ℕ) → n ≤ length xs → n ≤ length ys → AreBytes xs → AreBytes ys → little_number n xs ≡ little_number n ys → take n xs ≡ take n ys
same_spelling zero xs ys p q x_fits y_fits same = refl
same_spelling (suc n) [] ys p q x_fits y_fits same = absurd (omega arith)
same_spelling (suc n) (a ∷ xs) [] p q x_fits y_fits same = absurd (omega arith)
same_spelling (suc n) (a ∷ xs) (b ∷ ys) p q x_fits y_fits same =
    let a_fits : a < 256 = x_fits.below 0 in
    let b_fits : b < 256 = y_fits.below 0 in
    let x : ℕ = little_number n xs in
    let y : ℕ = little_number n ys in
    let sums : a + 256 * x ≡ b + 256 * y = sym (low_first n a xs) ∙ same ∙ low_first n b ys in
    let front : a ≡ b = omega arith in
    let rest : x ≡ y = omega arith in
    ap (λ z. z ∷ take n xs) front
    ∙ ap (λ z. b ∷ z) (same_spelling n xs ys (omega arith) (omega arith) (record { below = λ i. x_fits.below (suc i) }) (record { below = λ i. y_fits.below (suc i) }) rest)

byte_fits : (i x : ℕ) → byte_at i x < 256
byte_fits zero x = mod-lt x {m = 256} (lit< tt)
byte_fits (suc i) x = mod-lt (x / 256 ^ suc i) {m = 256} (lit< tt)

bytes_fit : (i n x k : ℕ) → get_or (bytes_low_first i n x) k 0 < 256
bytes_fit i zero x k = omega arith
bytes_fit i (suc n) x zero = byte_fits i x
bytes_fit i (suc n) x (suc k) = bytes_fit (suc i) n x k

-- the first n bytes are the bytes of the number that they read as
pub number_spelled : (n : ℕ) (xs : List ℕ) → n ≤ length xs → AreBytes xs → take n xs ≡ little_bytes n (little_number n xs)
number_spelled n xs long fits =
    let x : ℕ = little_number n xs in
    let below : x < 256 ^ n = little_from-lt 0 n xs fits.below in
    let read : little_number n (little_bytes n x) ≡ x = ap (little_number n) (sym (append-nil (little_bytes n x))) ∙ little_number-reads_back n x [] below in
    let many : length (little_bytes n x) ≡ n = length-bytes_low_first 0 n x in
    same_spelling n xs (little_bytes n x) long (omega arith) fits (record { below = bytes_fit 0 n x }) (sym read)
    ∙ take_all n (little_bytes n x) (omega arith)
