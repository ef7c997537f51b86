-- The bytes of a number that bytes spell are these bytes.
use Rattle.std.proofs.Common.{◌≡◌, ℕ, zero, suc, ◌+◌, ◌*◌, ◌/◌, ◌%◌, ◌^◌, ◌<◌, ◌≤◌, List, [], ◌∷◌, ◌++◌, refl, sym, ap, ◌∙◌, length, take, slice_index, arith, inl, inr}
use Rattle.std.specs.List.{All}
use Rattle.std.proofs.Math.Nat.{div-div-eq-div-mul, add-mul-div_left, div-eq_of_lt, pow-succ'}
use Rattle.std.proofs.lemmas.Bool.{cases_lt}
use Rattle.std.proofs.lemmas.List.{take_at, drop_at, get_or_past}
use Rattle.std.proofs.lemmas.List.Elements.{All-head, All-tail, All-same, All-take, All-drop}
use Rattle.std.specs.Int.{byte_at, bytes_low_first}
use Rattle.byteorder.specs.Endian.{little_number, little_bytes}
use Rattle.byteorder.specs.Numbers.{little_from-cons, little_from-lt}

-- a byte is a number below 256
abbrev pub IsByte : ℕ → Type 0
IsByte b = b < 256

pub front_bytes : (xs ys : List ℕ) → All IsByte (xs ++ ys) → All IsByte xs
front_bytes xs ys h = All-same IsByte xs (take (length xs) (xs ++ ys)) (sym (take_at xs ys (length xs) refl)) (All-take IsByte (length xs) (xs ++ ys) h)

pub back_bytes : (xs ys : List ℕ) → All IsByte (xs ++ ys) → All IsByte ys
back_bytes xs ys h = All-same IsByte ys _ (sym (drop_at xs ys (length xs) refl)) (All-drop IsByte (length xs) (xs ++ ys) h)

each_byte : (xs : List ℕ) → All IsByte xs → (k : ℕ) → slice_index xs k < 256
each_byte xs h k = elim (cases_lt k (length xs)) [
  | inl lt ↦ h k 0 lt
  | inr ge ↦ let past : slice_index xs k ≡ 0 = get_or_past xs k 0 ge in omega arith
]

-- a number in n bytes is below 256 ^ n
pub number_below : (n : ℕ) (xs : List ℕ) → All IsByte xs → little_number n xs < 256 ^ n
number_below n xs h = little_from-lt 0 n xs (each_byte xs h)

low_cut : (b x : ℕ) → b < 256 → (b + 256 * x) / 256 ≡ x
low_cut b x lt =
    let cut : (b + 256 * x) / 256 ≡ b / 256 + x = add-mul-div_left b x {y = 256} (omega arith) in
    let none : b / 256 ≡ 0 = div-eq_of_lt lt in
    omega arith

byte_above : (i b x : ℕ) → b < 256 → byte_at (suc i) (b + 256 * x) ≡ byte_at i x
byte_above zero b x lt = ap (λ (z : ℕ). z % 256) (low_cut b x lt)
byte_above (suc i) b x lt =
    ap (λ (z : ℕ). z % 256) (ap (λ (p : ℕ). (b + 256 * x) / p) (pow-succ' 256 (suc i)) ∙ sym (div-div-eq-div-mul (b + 256 * x) 256 (256 ^ suc i)) ∙ ap (λ (z : ℕ). z / 256 ^ suc i) (low_cut b x lt))

bytes_above : (n i b x : ℕ) → b < 256 → bytes_low_first (suc i) n (b + 256 * x) ≡ bytes_low_first i n x
bytes_above zero i b x lt = refl
bytes_above (suc n) i b x lt =
    ap (λ z. z ∷ bytes_low_first (suc (suc i)) n (b + 256 * x)) (byte_above i b x lt) ∙ ap (λ z. byte_at i x ∷ z) (bytes_above n (suc i) b x lt)

-- the bytes of the number that n bytes spell are these bytes
pub number_spelled : (n : ℕ) (xs : List ℕ) → n ≤ length xs → All IsByte xs → little_bytes n (little_number n xs) ≡ take n xs
number_spelled zero xs le h = refl
number_spelled (suc n) [] le h = absurd (omega arith)
number_spelled (suc n) (b ∷ xs) le h =
    let lt : b < 256 = All-head IsByte b xs h in
    let moved : little_bytes (suc n) (little_number (suc n) (b ∷ xs)) ≡ bytes_low_first 0 (suc n) (b + 256 * little_number n xs) = ap (λ (z : ℕ). bytes_low_first 0 (suc n) (b + 256 * z)) (little_from-cons 0 n b xs) in
    let low : byte_at 0 (b + 256 * little_number n xs) ≡ b = omega arith in
    moved ∙ ap (λ z. z ∷ bytes_low_first 1 n (b + 256 * little_number n xs)) low ∙ ap (λ z. b ∷ z) (bytes_above n 0 b (little_number n xs) lt ∙ number_spelled n xs (omega arith) (All-tail IsByte b xs h))
