-- What is read of batches: which bytes it stood in, and what it is with other bytes behind it.
use Rattle.std.proofs.Common.{◌≡◌, ℕ, zero, suc, ◌+◌, ◌<◌, ◌≤◌, ◌^◌, List, [], ◌∷◌, ◌++◌, refl, sym, ap, subst, ◌∙◌, length, take, drop, arith, add-one, append_assoc, length-append, length-drop, true, cond, leb, eqb, ◌&&◌}
use Rattle.std.specs.declared.option.Option.{Option}
use Rattle.std.specs.declared.option.Option.TheVariants.{None, Some}
use Rattle.std.specs.List.{All}
use Rattle.std.proofs.lemmas.Bool.{le-leb, leb-true, eqb-true, and_parts, and_from}
use Rattle.std.proofs.lemmas.Option.{some_pair_parts, same_Some}
use Rattle.std.proofs.lemmas.List.{take_at, drop_at, take-append-drop, drop-append-le, drop-drop, length-take-le, append_cancel_right, take_all, append-nil, nil_from_length}
use Rattle.std.proofs.lemmas.List.Elements.{All-nil, All-cons, All-same}
use Rattle.byteorder.specs.Endian.{little_number, little_bytes}
use Rattle.byteorder.specs.Numbers.{little_from-append}
use Rattle.gate_journal.specs.declared.batches.Range.{Range}
use Rattle.gate_journal.specs.declared.batches.Batch.{Batch}
use Rattle.gate_journal.specs.Batches.{record_bytes, records_bytes, batch_bytes, batches_bytes, Stands, Fits, InARow, may_follow, range_of, range_at, put_first, range_then, ranges_at, batch_of, batch_and, batch_behind, batch_at, numbered, batch_then, batches_at, IsSpelled}
use Rattle.gate_journal.specs.Journal.{last_after}
use Rattle.gate_journal.proofs.NumberBytes.{IsByte, front_bytes, back_bytes, number_below, number_spelled}
use Rattle.gate_journal.proofs.Prefixes.{Prefix, cond_then, put_from}

-- ---- a record

-- 12 bytes in front tell where a range stands, and how long it is
pub range_behind : (size : ℕ) (head tail : List ℕ) → length head ≡ 12 → range_at size (head ++ tail) ≡ range_of size (little_number 8 head) (little_number 4 (drop 8 head)) tail
range_behind size head tail len =
    let bytes : List ℕ = head ++ tail in
    let long : 12 ≤ length bytes = omega (arith, length-append head tail) in
    let off : little_number 8 bytes ≡ little_number 8 head = little_from-append 8 head tail (omega arith) in
    let short : little_number 4 (drop 8 bytes) ≡ little_number 4 (drop 8 head) = ap (little_number 4) (drop-append-le 8 head tail (omega arith)) ∙ little_from-append 4 (drop 8 head) tail (omega (arith, length-drop 8 head)) in
    ap (λ b. cond b (range_of size (little_number 8 bytes) (little_number 4 (drop 8 bytes)) (drop 12 bytes)) None) (le-leb 12 (length bytes) long)
    ∙ ap (λ z. range_of size z (little_number 4 (drop 8 bytes)) (drop 12 bytes)) off
    ∙ ap (λ z. range_of size (little_number 8 head) z (drop 12 bytes)) short
    ∙ ap (range_of size (little_number 8 head) (little_number 4 (drop 8 head))) (drop_at head tail 12 len)

-- a range that stands in the volume is read from its bytes
pub range_filled : (size off len : ℕ) (body rest : List ℕ) → length body ≡ len → 1 ≤ len → off + len ≤ size → range_of size off len (body ++ rest) ≡ Some (record { off = off; bytes = body }, rest)
range_filled size off len body rest e some inside =
    let within : len ≤ length (body ++ rest) = omega (arith, length-append body rest) in
    ap (λ b. cond b (Some (record { off = off; bytes = take len (body ++ rest) }, drop len (body ++ rest))) None) (and_from _ _ (le-leb 1 len some) (and_from _ _ (le-leb (off + len) size inside) (le-leb len (length (body ++ rest)) within)))
    ∙ ap (λ z. Some (record { off = off; bytes = z }, drop len (body ++ rest))) (take_at body rest len e)
    ∙ ap (λ z. Some (record { off = off; bytes = body }, z)) (drop_at body rest len e)

range_of_front : (size off len : ℕ) (tail : List ℕ) (r : Range) (rest : List ℕ) → range_of size off len tail ≡ Some (r, rest)
    → (1 ≤ len) × (off + len ≤ size) × (len ≤ length tail) × (record { off = off; bytes = take len tail } ≡ r) × (drop len tail ≡ rest)
range_of_front size off len tail r rest p =
    let is = cond_then (leb 1 len && (leb (off + len) size && leb len (length tail))) (Some (record { off = off; bytes = take len tail }, drop len tail)) (r, rest) p in
    let one = and_parts _ _ is.0 in
    let two = and_parts _ _ one.1 in
    let parts = some_pair_parts _ r _ rest is.1 in
    (leb-true _ _ one.0, leb-true _ _ two.0, leb-true _ _ two.1, parts.0, parts.1)

record_spelled : (head body : List ℕ) → length head ≡ 12 → length body ≡ little_number 4 (drop 8 head) → All IsByte head → head ++ body ≡ little_bytes 8 (little_number 8 head) ++ (little_bytes 4 (length body) ++ body)
record_spelled head body len size each =
    let split : take 8 head ++ drop 8 head ≡ head = take-append-drop 8 head in
    let back : All IsByte (drop 8 head) = back_bytes (take 8 head) (drop 8 head) (All-same IsByte _ _ split each) in
    let four : length (drop 8 head) ≡ 4 = omega (arith, length-drop 8 head) in
    let off : little_bytes 8 (little_number 8 head) ≡ take 8 head = number_spelled 8 head (omega arith) each in
    let short : little_bytes 4 (length body) ≡ drop 8 head = ap (little_bytes 4) size ∙ number_spelled 4 (drop 8 head) (omega arith) back ∙ take_all 4 (drop 8 head) (omega arith) in
    ap (λ z. z ++ body) (sym split) ∙ append_assoc (take 8 head) (drop 8 head) body ∙ ap (λ z. z ++ (drop 8 head ++ body)) (sym off) ∙ ap (λ z. little_bytes 8 (little_number 8 head) ++ (z ++ body)) (sym short)

range_front : (size : ℕ) (bytes : List ℕ) (r : Range) (rest : List ℕ) → range_at size bytes ≡ Some (r, rest) → Prefix (range_at size) bytes r rest (record_bytes r) (Stands size r) (r.off < 2 ^ 64)
range_front size bytes r rest p =
    let found = cond_then (leb 12 (length bytes)) (range_of size (little_number 8 bytes) (little_number 4 (drop 8 bytes)) (drop 12 bytes)) (r, rest) p in
    let long : 12 ≤ length bytes = leb-true 12 (length bytes) found.0 in
    let head : List ℕ = take 12 bytes in
    let tail : List ℕ = drop 12 bytes in
    let split : head ++ tail ≡ bytes = take-append-drop 12 bytes in
    let twelve : length head ≡ 12 = length-take-le 12 bytes long in
    let off : ℕ = little_number 8 head in
    let len : ℕ = little_number 4 (drop 8 head) in
    let is = range_of_front size off len tail r rest (sym (range_behind size head tail twelve) ∙ ap (range_at size) split ∙ p) in
    let body : List ℕ = take len tail in
    let full : length body ≡ len = length-take-le len tail is.2 in
    let made : Range = record { off = off; bytes = body } in
    let back : tail ≡ body ++ rest = sym (take-append-drop len tail) ∙ ap (λ z. body ++ z) is.4 in
    subst (λ (x : Range). Prefix (range_at size) bytes x rest (record_bytes x) (Stands size x) (x.off < 2 ^ 64)) is.3 (record {
      front = head ++ body;
      whole = sym split ∙ ap (λ z. head ++ z) back ∙ sym (append_assoc head body rest);
      again = λ other. ap (range_at size) (append_assoc head body other) ∙ range_behind size head (body ++ other) twelve ∙ range_filled size off len body other full is.0 is.1;
      len = omega (arith, length-append head body);
      always = record { some = omega arith; inside = omega arith };
      spelled = λ each. (record_spelled head body twelve full (front_bytes head body each), number_below 8 head (front_bytes head body each));
    })

-- ---- records one behind the other

range_from : (read : List ℕ → Option (List Range × List ℕ)) (o : Option (Range × List ℕ)) (all : List Range) (rest : List ℕ) → range_then read o ≡ Some (all, rest)
    → (r : Range × List ℕ) × (o ≡ Some r) × (put_first r.0 (read r.1) ≡ Some (all, rest))
range_from read None all rest p = absurd (cc)
range_from read (Some r) all rest p = (r, refl, p)

-- what holds of records that were read, and what holds of them where each byte is below 256
abbrev pub ReadRanges : ℕ → ℕ → List Range → Type 0
ReadRanges size n ranges = All (Stands size) ranges × (length ranges ≡ n)

abbrev pub ShortOffsets : List Range → Type 0
ShortOffsets ranges = All (λ r. r.off < 2 ^ 64) ranges

ranges_front : (size n : ℕ) (bytes : List ℕ) (all : List Range) (rest : List ℕ) → ranges_at size n bytes ≡ Some (all, rest) → Prefix (ranges_at size n) bytes all rest (records_bytes all) (ReadRanges size n all) (ShortOffsets all)
ranges_front size zero bytes all rest p =
    let parts = some_pair_parts [] all bytes rest p in
    subst (λ (xs : List Range). Prefix (ranges_at size zero) bytes xs rest (records_bytes xs) (ReadRanges size zero xs) (ShortOffsets xs)) parts.0 (record {
      front = [];
      whole = parts.1;
      again = λ other. refl;
      len = refl;
      always = (All-nil (Stands size), refl);
      spelled = λ each. (refl, All-nil (λ r. r.off < 2 ^ 64));
    })
ranges_front size (suc n) bytes all rest p =
    let one = range_from (ranges_at size n) (range_at size bytes) all rest p in
    let r : Range = one.0.0 in
    let more = put_from r (ranges_at size n one.0.1) all rest one.2 in
    let others : List Range = more.0 in
    let first = range_front size bytes r one.0.1 one.1 in
    let second = ranges_front size n one.0.1 others rest more.1 in
    let front : List ℕ = first.front ++ second.front in
    subst (λ (xs : List Range). Prefix (ranges_at size (suc n)) bytes xs rest (records_bytes xs) (ReadRanges size (suc n) xs) (ShortOffsets xs)) (sym more.2) (record {
      front = front;
      whole = first.whole ∙ ap (λ z. first.front ++ z) second.whole ∙ sym (append_assoc first.front second.front rest);
      again = λ other. ap (λ z. range_then (ranges_at size n) (range_at size z)) (append_assoc first.front second.front other) ∙ ap (range_then (ranges_at size n)) (first.again (second.front ++ other)) ∙ ap (put_first r) (second.again other);
      len = length-append first.front second.front ∙ omega (arith, first.len, second.len, length-append (record_bytes r) (records_bytes others));
      always = (All-cons (Stands size) r others first.always second.always.0, ap (λ z. suc z) second.always.1);
      spelled = λ each.
          let low = first.spelled (front_bytes first.front second.front each) in
          let high = second.spelled (back_bytes first.front second.front each) in
          (ap (λ z. z ++ second.front) low.0 ∙ ap (λ z. record_bytes r ++ z) high.0, All-cons (λ (x : Range). x.off < 2 ^ 64) r others low.1 high.1);
    })

-- ---- a batch

-- 16 bytes in front tell a batch's number, and how many bytes and records follow
pub batch_header : (size : ℕ) (head tail : List ℕ) → length head ≡ 16 → batch_at size (head ++ tail) ≡ batch_behind size (little_number 8 head) (little_number 4 (drop 8 head)) (little_number 4 (drop 12 head)) tail
batch_header size head tail len =
    let bytes : List ℕ = head ++ tail in
    let long : 16 ≤ length bytes = omega (arith, length-append head tail) in
    let number : little_number 8 bytes ≡ little_number 8 head = little_from-append 8 head tail (omega arith) in
    let count : little_number 4 (drop 8 bytes) ≡ little_number 4 (drop 8 head) = ap (little_number 4) (drop-append-le 8 head tail (omega arith)) ∙ little_from-append 4 (drop 8 head) tail (omega (arith, length-drop 8 head)) in
    let records : little_number 4 (drop 12 bytes) ≡ little_number 4 (drop 12 head) = ap (little_number 4) (drop-append-le 12 head tail (omega arith)) ∙ little_from-append 4 (drop 12 head) tail (omega (arith, length-drop 12 head)) in
    ap (λ b. cond b (batch_behind size (little_number 8 bytes) (little_number 4 (drop 8 bytes)) (little_number 4 (drop 12 bytes)) (drop 16 bytes)) None) (le-leb 16 (length bytes) long)
    ∙ ap (λ z. batch_behind size z (little_number 4 (drop 8 bytes)) (little_number 4 (drop 12 bytes)) (drop 16 bytes)) number
    ∙ ap (λ z. batch_behind size (little_number 8 head) z (little_number 4 (drop 12 bytes)) (drop 16 bytes)) count
    ∙ ap (λ z. batch_behind size (little_number 8 head) (little_number 4 (drop 8 head)) z (drop 16 bytes)) records
    ∙ ap (batch_behind size (little_number 8 head) (little_number 4 (drop 8 head)) (little_number 4 (drop 12 head))) (drop_at head tail 16 len)

-- a batch is read whose records fill its bytes
pub batch_filled : (size number count records : ℕ) (body rest : List ℕ) (ranges : List Range) → length body ≡ count → ranges_at size records body ≡ Some (ranges, []) → batch_behind size number count records (body ++ rest) ≡ Some (record { number = number; ranges = ranges }, rest)
batch_filled size number count records body rest ranges e p =
    let within : count ≤ length (body ++ rest) = omega (arith, length-append body rest) in
    ap (λ b. cond b (batch_and (drop count (body ++ rest)) (batch_of number (ranges_at size records (take count (body ++ rest))))) None) (le-leb count (length (body ++ rest)) within)
    ∙ ap (λ z. batch_and z (batch_of number (ranges_at size records (take count (body ++ rest))))) (drop_at body rest count e)
    ∙ ap (λ z. batch_and rest (batch_of number (ranges_at size records z))) (take_at body rest count e)
    ∙ ap (λ z. batch_and rest (batch_of number z)) p

batch_from : (behind : List ℕ) (o : Option Batch) (b : Batch) (rest : List ℕ) → batch_and behind o ≡ Some (b, rest) → (o ≡ Some b) × (behind ≡ rest)
batch_from behind None b rest p = absurd (cc)
batch_from behind (Some x) b rest p = let parts = some_pair_parts x b behind rest p in (ap (λ z. Some z) parts.0, parts.1)

batch_made : (number : ℕ) (o : Option (List Range × List ℕ)) (b : Batch) → batch_of number o ≡ Some b → (ranges : List Range) × (o ≡ Some (ranges, [])) × (record { number = number; ranges = ranges } ≡ b)
batch_made number None b p = absurd (cc)
batch_made number (Some read) b p =
    let is = cond_then (eqb (length read.1) 0) (Some (record { number = number; ranges = read.0 })) b p in
    let none : read.1 ≡ [] = nil_from_length read.1 (eqb-true (length read.1) 0 is.0) in
    (read.0, ap (λ z. Some (read.0, z)) none, same_Some _ b is.1)

batch_of_front : (size number count records : ℕ) (tail : List ℕ) (b : Batch) (rest : List ℕ) → batch_behind size number count records tail ≡ Some (b, rest)
    → (ranges : List Range) × (count ≤ length tail) × (drop count tail ≡ rest) × (ranges_at size records (take count tail) ≡ Some (ranges, [])) × (record { number = number; ranges = ranges } ≡ b)
batch_of_front size number count records tail b rest p =
    let found = cond_then (leb count (length tail)) (batch_and (drop count tail) (batch_of number (ranges_at size records (take count tail)))) (b, rest) p in
    let is = batch_from (drop count tail) (batch_of number (ranges_at size records (take count tail))) b rest found.1 in
    let made = batch_made number (ranges_at size records (take count tail)) b is.0 in
    (made.0, leb-true count (length tail) found.0, is.1, made.1, made.2)

header_spelled : (head body : List ℕ) (records : ℕ) → length head ≡ 16 → length body ≡ little_number 4 (drop 8 head) → records ≡ little_number 4 (drop 12 head) → All IsByte head → head ++ body ≡ little_bytes 8 (little_number 8 head) ++ (little_bytes 4 (length body) ++ (little_bytes 4 records ++ body))
header_spelled head body records len size few each =
    let split : take 8 head ++ drop 8 head ≡ head = take-append-drop 8 head in
    let back : All IsByte (drop 8 head) = back_bytes (take 8 head) (drop 8 head) (All-same IsByte _ _ split each) in
    let parts : take 4 (drop 8 head) ++ drop 12 head ≡ drop 8 head = ap (λ z. take 4 (drop 8 head) ++ z) (sym (drop-drop 4 8 head)) ∙ take-append-drop 4 (drop 8 head) in
    let last : All IsByte (drop 12 head) = back_bytes (take 4 (drop 8 head)) (drop 12 head) (All-same IsByte _ _ parts back) in
    let one : little_bytes 8 (little_number 8 head) ≡ take 8 head = number_spelled 8 head (omega arith) each in
    let two : little_bytes 4 (length body) ≡ take 4 (drop 8 head) = ap (little_bytes 4) size ∙ number_spelled 4 (drop 8 head) (omega (arith, length-drop 8 head)) back in
    let three : little_bytes 4 records ≡ drop 12 head = ap (little_bytes 4) few ∙ number_spelled 4 (drop 12 head) (omega (arith, length-drop 12 head)) last ∙ take_all 4 (drop 12 head) (omega (arith, length-drop 12 head)) in
    ap (λ z. z ++ body) (sym split) ∙ append_assoc (take 8 head) (drop 8 head) body
    ∙ ap (λ z. take 8 head ++ (z ++ body)) (sym parts) ∙ ap (λ z. take 8 head ++ z) (append_assoc (take 4 (drop 8 head)) (drop 12 head) body)
    ∙ ap (λ z. z ++ (take 4 (drop 8 head) ++ (drop 12 head ++ body))) (sym one)
    ∙ ap (λ z. little_bytes 8 (little_number 8 head) ++ (z ++ (drop 12 head ++ body))) (sym two)
    ∙ ap (λ z. little_bytes 8 (little_number 8 head) ++ (little_bytes 4 (length body) ++ (z ++ body))) (sym three)

batch_front : (size : ℕ) (bytes : List ℕ) (b : Batch) (rest : List ℕ) → batch_at size bytes ≡ Some (b, rest) → Prefix (batch_at size) bytes b rest (batch_bytes b) (All (Stands size) b.ranges) (Fits size b)
batch_front size bytes b rest p =
    let found = cond_then (leb 16 (length bytes)) (batch_behind size (little_number 8 bytes) (little_number 4 (drop 8 bytes)) (little_number 4 (drop 12 bytes)) (drop 16 bytes)) (b, rest) p in
    let long : 16 ≤ length bytes = leb-true 16 (length bytes) found.0 in
    let head : List ℕ = take 16 bytes in
    let tail : List ℕ = drop 16 bytes in
    let split : head ++ tail ≡ bytes = take-append-drop 16 bytes in
    let sixteen : length head ≡ 16 = length-take-le 16 bytes long in
    let number : ℕ = little_number 8 head in
    let count : ℕ = little_number 4 (drop 8 head) in
    let records : ℕ = little_number 4 (drop 12 head) in
    let is = batch_of_front size number count records tail b rest (sym (batch_header size head tail sixteen) ∙ ap (batch_at size) split ∙ p) in
    let ranges : List Range = is.0 in
    let body : List ℕ = take count tail in
    let full : length body ≡ count = length-take-le count tail is.1 in
    let made : Batch = record { number = number; ranges = ranges } in
    let back : tail ≡ body ++ rest = sym (take-append-drop count tail) ∙ ap (λ z. body ++ z) is.2 in
    let inner = ranges_front size records body ranges [] is.3 in
    let filled : body ≡ inner.front = inner.whole ∙ append-nil inner.front in
    let length_is : length body ≡ length (records_bytes ranges) = ap length filled ∙ inner.len in
    subst (λ (x : Batch). Prefix (batch_at size) bytes x rest (batch_bytes x) (All (Stands size) x.ranges) (Fits size x)) is.4 (record {
      front = head ++ body;
      whole = sym split ∙ ap (λ z. head ++ z) back ∙ sym (append_assoc head body rest);
      again = λ other. ap (batch_at size) (append_assoc head body other) ∙ batch_header size head (body ++ other) sixteen ∙ batch_filled size number count records body other ranges full is.3;
      len = omega (arith, length-append head body);
      always = inner.always.0;
      spelled = λ each.
          let low : All IsByte head = front_bytes head body each in
          let high = inner.spelled (All-same IsByte inner.front body (sym filled) (back_bytes head body each)) in
          let same : body ≡ records_bytes ranges = filled ∙ high.0 in
          let back8 : All IsByte (drop 8 head) = back_bytes (take 8 head) (drop 8 head) (All-same IsByte _ _ (take-append-drop 8 head) low) in
          let back12 : All IsByte (drop 12 head) = back_bytes (take 12 head) (drop 12 head) (All-same IsByte _ _ (take-append-drop 12 head) low) in
          let few : little_number 4 (drop 12 head) < 256 ^ 4 = number_below 4 (drop 12 head) back12 in
          let short : little_number 4 (drop 8 head) < 256 ^ 4 = number_below 4 (drop 8 head) back8 in (
            header_spelled head body (length ranges) sixteen full inner.always.1 low
                ∙ ap (λ z. little_bytes 8 number ++ (little_bytes 4 (length z) ++ (little_bytes 4 (length ranges) ++ z))) same,
            record {
              each = inner.always.0;
              number = number_below 8 head low;
              offsets = high.1;
              few = omega (arith, inner.always.1);
              short = omega arith;
            },
          );
    })

-- ---- batches one behind the other

pub numbered_from : (before : Option ℕ) (o : Option (Batch × List ℕ)) (r : Batch × List ℕ) → numbered before o ≡ Some r → (o ≡ Some r) × (may_follow before r.0.number ≡ true)
numbered_from before None r p = absurd (cc)
numbered_from before (Some x) r p =
    let is = cond_then (may_follow before x.0.number) (Some x) r p in
    (is.1, ap (λ z. may_follow before z.0.number) (sym (same_Some x r is.1)) ∙ is.0)

batch_then_from : (read : Option ℕ → List ℕ → Option (List Batch × List ℕ)) (o : Option (Batch × List ℕ)) (all : List Batch) (rest : List ℕ) → batch_then read o ≡ Some (all, rest)
    → (r : Batch × List ℕ) × (o ≡ Some r) × (put_first r.0 (read (Some r.0.number) r.1) ≡ Some (all, rest))
batch_then_from read None all rest p = absurd (cc)
batch_then_from read (Some r) all rest p = (r, refl, p)

-- what holds of batches that were read
pub record AreRead (size : ℕ) (before : Option ℕ) (n : ℕ) (batches : List Batch) : Type 0 where
  pub stand : All (λ b. All (Stands size) b.ranges) batches
  pub many : length batches ≡ n
  pub in_a_row : InARow before batches

-- a batch with a number that may stand there, and the batches behind it
pub one_then : (size n : ℕ) (before : Option ℕ) (bytes : List ℕ) (b : Batch) (behind : List ℕ) → may_follow before b.number ≡ true → batch_at size bytes ≡ Some (b, behind)
    → batches_at size before (suc n) bytes ≡ put_first b (batches_at size (Some b.number) n behind)
one_then size n before bytes b behind m p =
    ap (λ z. batch_then (λ number rest. batches_at size number n rest) (numbered before z)) p
    ∙ ap (λ z. batch_then (λ number rest. batches_at size number n rest) (cond z (Some (b, behind)) None)) m

batches_front : (size n : ℕ) (before : Option ℕ) (bytes : List ℕ) (all : List Batch) (rest : List ℕ) → batches_at size before n bytes ≡ Some (all, rest)
    → Prefix (batches_at size before n) bytes all rest (batches_bytes all) (AreRead size before n all) (All (Fits size) all)
batches_front size zero before bytes all rest p =
    let parts = some_pair_parts [] all bytes rest p in
    subst (λ (xs : List Batch). Prefix (batches_at size before zero) bytes xs rest (batches_bytes xs) (AreRead size before zero xs) (All (Fits size) xs)) parts.0 (record {
      front = [];
      whole = parts.1;
      again = λ other. refl;
      len = refl;
      always = record { stand = All-nil (λ (b : Batch). All (Stands size) b.ranges); many = refl; in_a_row = tt };
      spelled = λ each. (refl, All-nil (Fits size));
    })
batches_front size (suc n) before bytes all rest p =
    let one = batch_then_from (λ number behind. batches_at size number n behind) (numbered before (batch_at size bytes)) all rest p in
    let found = numbered_from before (batch_at size bytes) one.0 one.1 in
    let b : Batch = one.0.0 in
    let more = put_from b (batches_at size (Some b.number) n one.0.1) all rest one.2 in
    let others : List Batch = more.0 in
    let first = batch_front size bytes b one.0.1 found.0 in
    let second = batches_front size n (Some b.number) one.0.1 others rest more.1 in
    let front : List ℕ = first.front ++ second.front in
    subst (λ (xs : List Batch). Prefix (batches_at size before (suc n)) bytes xs rest (batches_bytes xs) (AreRead size before (suc n) xs) (All (Fits size) xs)) (sym more.2) (record {
      front = front;
      whole = first.whole ∙ ap (λ z. first.front ++ z) second.whole ∙ sym (append_assoc first.front second.front rest);
      again = λ other. ap (batches_at size before (suc n)) (append_assoc first.front second.front other)
          ∙ one_then size n before (first.front ++ (second.front ++ other)) b (second.front ++ other) found.1 (first.again (second.front ++ other)) ∙ ap (put_first b) (second.again other);
      len = length-append first.front second.front ∙ omega (arith, first.len, second.len, length-append (batch_bytes b) (batches_bytes others));
      always = record {
        stand = All-cons (λ (x : Batch). All (Stands size) x.ranges) b others first.always second.always.stand;
        many = ap (λ z. suc z) second.always.many;
        in_a_row = (found.1, second.always.in_a_row);
      };
      spelled = λ each.
          let low = first.spelled (front_bytes first.front second.front each) in
          let high = second.spelled (back_bytes first.front second.front each) in
          (ap (λ z. z ++ second.front) low.0 ∙ ap (λ z. batch_bytes b ++ z) high.0, All-cons (Fits size) b others low.1 high.1);
    })

-- ---- what appending and the laws take from here

-- batches that were read stood in a front of the bytes that is as long as they are spelled
pub read_front : (size n : ℕ) (before : Option ℕ) (bytes : List ℕ) (batches : List Batch) (rest : List ℕ) → batches_at size before n bytes ≡ Some (batches, rest)
    → (front : List ℕ) × (bytes ≡ front ++ rest) × (length front ≡ length (batches_bytes batches)) × AreRead size before n batches
read_front size n before bytes batches rest p =
    let is = batches_front size n before bytes batches rest p in
    (is.front, is.whole, is.len, is.always)

-- the same batches are read from the same front, whatever follows it
pub read_again : (size n : ℕ) (before : Option ℕ) (front : List ℕ) (batches : List Batch) (rest other : List ℕ) → batches_at size before n (front ++ rest) ≡ Some (batches, rest) → batches_at size before n (front ++ other) ≡ Some (batches, other)
read_again size n before front batches rest other p =
    let is = batches_front size n before (front ++ rest) batches rest p in
    ap (λ z. batches_at size before n (z ++ other)) (append_cancel_right front is.front rest is.whole) ∙ is.again other

-- one batch put behind those that were read
abbrev pub put_last : List Batch → Option (Batch × List ℕ) → Option (List Batch × List ℕ)
put_last all None = None
put_last all (Some r) = Some (all ++ r.0 ∷ [], r.1)

put_first_last : (b : Batch) (all : List Batch) (o : Option (Batch × List ℕ)) → put_first b (put_last all o) ≡ put_last (b ∷ all) o
put_first_last b all None = refl
put_first_last b all (Some r) = refl

only_one : (o : Option (Batch × List ℕ)) → batch_then (λ number rest. Some ([], rest)) o ≡ put_last [] o
only_one None = refl
only_one (Some r) = refl

one_further : (size n : ℕ) (before : Option ℕ) (bytes : List ℕ) (all : List Batch) (rest : List ℕ) → batches_at size before n bytes ≡ Some (all, rest)
    → batches_at size before (suc n) bytes ≡ put_last all (numbered (last_after before all) (batch_at size rest))
one_further size zero before bytes all rest p =
    let parts = some_pair_parts [] all bytes rest p in
    only_one (numbered before (batch_at size bytes)) ∙ ap (λ z. put_last [] (numbered before (batch_at size z))) parts.1
    ∙ ap (λ (z : List Batch). put_last z (numbered (last_after before z) (batch_at size rest))) parts.0
one_further size (suc n) before bytes all rest p =
    let one = batch_then_from (λ number behind. batches_at size number n behind) (numbered before (batch_at size bytes)) all rest p in
    let found = numbered_from before (batch_at size bytes) one.0 one.1 in
    let b : Batch = one.0.0 in
    let more = put_from b (batches_at size (Some b.number) n one.0.1) all rest one.2 in
    one_then size (suc n) before bytes b one.0.1 found.1 found.0
    ∙ ap (put_first b) (one_further size n (Some b.number) one.0.1 more.0 rest more.1)
    ∙ put_first_last b more.0 (numbered (last_after (Some b.number) more.0) (batch_at size rest))
    ∙ ap (λ (z : List Batch). put_last z (numbered (last_after before z) (batch_at size rest))) (sym more.2)

-- what one batch more reads: the batch behind those that were read, where there is one with the right number
pub read_step : (size n : ℕ) (before : Option ℕ) (bytes : List ℕ) (batches : List Batch) (rest : List ℕ) → batches_at size before n bytes ≡ Some (batches, rest)
    → batches_at size before (n + 1) bytes ≡ put_last batches (numbered (last_after before batches) (batch_at size rest))
read_step size n before bytes batches rest p = ap (λ z. batches_at size before z bytes) (add-one n) ∙ one_further size n before bytes batches rest p

-- a batch that stands behind those that were read, with the number behind the last of them, is read too
pub read_more : (size n : ℕ) (before : Option ℕ) (bytes : List ℕ) (batches : List Batch) (rest : List ℕ) (b : Batch) (behind : List ℕ) → batches_at size before n bytes ≡ Some (batches, rest) → batch_at size rest ≡ Some (b, behind) → may_follow (last_after before batches) b.number ≡ true
    → batches_at size before (n + 1) bytes ≡ Some (batches ++ b ∷ [], behind)
read_more size n before bytes batches rest b behind p q m =
    read_step size n before bytes batches rest p ∙ ap (λ z. put_last batches (numbered (last_after before batches) z)) q
    ∙ ap (λ z. put_last batches (cond z (Some (b, behind)) None)) m

-- what was read was written there: where each byte is below 256, the bytes begin with just these batches
pub read_was_written : (size n : ℕ) (before : Option ℕ) (bytes : List ℕ) (batches : List Batch) (rest : List ℕ) → All IsByte bytes → batches_at size before n bytes ≡ Some (batches, rest) → IsSpelled size before n bytes batches rest
read_was_written size n before bytes batches rest each p =
    let is = batches_front size n before bytes batches rest p in
    let written = is.spelled (front_bytes is.front rest (All-same IsByte _ _ (sym is.whole) each)) in
    record {
      spelled = is.whole ∙ ap (λ z. z ++ rest) written.0;
      len = is.always.many;
      fits = written.1;
      in_a_row = is.always.in_a_row;
    }
