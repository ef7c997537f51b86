-- How long records are, and bytes that were appended one after another.
use Rattle.std.proofs.Common.{◌≡◌, ℕ, zero, suc, ◌+◌, ◌-◌, ◌^◌, min, ◌<◌, ◌≤◌, List, [], ◌∷◌, ◌++◌, sym, ap, subst, ◌∙◌, length, take, get_or, arith, append_assoc, length-append}
use Rattle.std.specs.List.{All}
use Rattle.std.proofs.lemmas.List.{take_more, take_all, append-nil}
use Rattle.std.proofs.lemmas.List.Elements.{All-nil, All-cons, All-append}
use Rattle.std.proofs.lemmas.List.Concat.{flat_map-append}
use Rattle.gate_journal.specs.declared.batches.Range.{Range}
use Rattle.gate_journal.specs.Batches.{record_bytes, records_bytes}

pub three_joined : (out a b c o1 o2 o3 : List ℕ) → o1 ≡ out ++ a → o2 ≡ o1 ++ b → o3 ≡ o2 ++ c → o3 ≡ out ++ (a ++ (b ++ c))
three_joined out a b c o1 o2 o3 p1 p2 p3 =
    let all : o3 ≡ ((out ++ a) ++ b) ++ c = p3 ∙ ap (λ z. z ++ c) (p2 ∙ ap (λ z. z ++ b) p1) in
    all ∙ simp append_assoc

-- a record is no longer than all of them
piece_within : (xs : List Range) (i : ℕ) (x : Range) → i < length xs → length (record_bytes (get_or xs i x)) ≤ length (records_bytes xs)
piece_within [] i x lt = absurd (omega arith)
piece_within (y ∷ ys) zero x lt = omega (arith, length-append (record_bytes y) (records_bytes ys))
piece_within (y ∷ ys) (suc i) x lt = omega (arith, length-append (record_bytes y) (records_bytes ys), piece_within ys i x (omega arith))

pub record_length : (r : Range) → length (record_bytes r) ≡ 12 + length r.bytes
record_length r = omega arith

-- the bytes of a range are fewer than those of all records
pub range_within : (xs : List Range) (i : ℕ) (x : Range) → i < length xs → x ≡ get_or xs i x → length x.bytes ≤ length (records_bytes xs)
range_within xs i x lt is =
    omega (arith, piece_within xs i x lt, ap (λ r. length (record_bytes r)) is, record_length x)

-- records are no fewer bytes than ranges
pub count_within : (xs : List Range) → length xs ≤ length (records_bytes xs)
count_within [] = omega arith
count_within (x ∷ xs) = omega (arith, length-append (record_bytes x) (records_bytes xs), record_length x, count_within xs)

pub records_more : (xs : List Range) (i : ℕ) (x : Range) → i < length xs → x ≡ get_or xs i x → records_bytes (take i xs) ++ record_bytes x ≡ records_bytes (take (i + 1) xs)
records_more xs i x lt is =
    ap (λ z. records_bytes (take i xs) ++ z) (ap record_bytes is ∙ sym (append-nil (record_bytes (get_or xs i x))))
    ∙ sym (flat_map-append record_bytes (take i xs) (get_or xs i x ∷ [])) ∙ ap records_bytes (sym (take_more xs i x lt))

-- counting one record more stops at the last value of 8 bytes
pub total_more : (xs : List Range) (i : ℕ) (x : Range) (total : ℕ) → i < length xs → x ≡ get_or xs i x → total ≡ min (16 + length (records_bytes (take i xs))) (2 ^ 64 - 1)
    → min (min (total + 12) (2 ^ 64 - 1) + length x.bytes) (2 ^ 64 - 1) ≡ min (16 + length (records_bytes (take (i + 1) xs))) (2 ^ 64 - 1)
total_more xs i x total lt is so_far =
    let long : length (records_bytes (take (i + 1) xs)) ≡ length (records_bytes (take i xs)) + (12 + length x.bytes) = ap length (sym (records_more xs i x lt is)) ∙ length-append (records_bytes (take i xs)) (record_bytes x) ∙ ap (λ n. length (records_bytes (take i xs)) + n) (record_length x) in
    capped total (length (records_bytes (take i xs))) (length x.bytes) (length (records_bytes (take (i + 1) xs))) so_far long
  where
    capped : (total before len after : ℕ) → total ≡ min (16 + before) (2 ^ 64 - 1) → after ≡ before + (12 + len) → min (min (total + 12) (2 ^ 64 - 1) + len) (2 ^ 64 - 1) ≡ min (16 + after) (2 ^ 64 - 1)
    capped total before len after so_far long = omega (arith, so_far, long)

-- what holds of the first ranges and of the next holds of one more
pub all_more : (P : Range → Type 0) (xs : List Range) (i : ℕ) (x : Range) → i < length xs → x ≡ get_or xs i x → All P (take i xs) → P x → All P (take (i + 1) xs)
all_more P xs i x lt is each one =
    subst (λ l. All P l) (sym (take_more xs i x lt)) (All-append P (take i xs) (get_or xs i x ∷ []) each (All-cons P (get_or xs i x) [] (subst P is one) (All-nil P)))

pub all_taken : (P : Range → Type 0) (xs : List Range) (i : ℕ) → length xs ≤ i → All P (take i xs) → All P xs
all_taken P xs i le each = subst (λ l. All P l) (take_all i xs le) each
