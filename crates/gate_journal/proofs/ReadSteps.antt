-- The steps of reading a record area.
use Rattle.std.proofs.Common.{◌≡◌, ℕ, suc, ◌+◌, ◌-◌, ◌≤◌, List, [], ◌∷◌, ◌++◌, refl, sym, ap, subst, ◌∙◌, length, take, drop, arith, append_assoc, length-append, true, false, Bool, cond, leb, eqb, ◌&&◌}
use Rattle.std.specs.declared.option.Option.{Option}
use Rattle.std.specs.declared.option.Option.TheVariants.{None, Some}
use Rattle.std.specs.List.{All}
use Rattle.std.proofs.lemmas.Bool.{le-leb, leb-true, eqb-true, and_parts, and_from, cond-false}
use Rattle.std.proofs.lemmas.List.{append-nil, nil_from_length}
use Rattle.std.proofs.lemmas.List.Elements.{All-nil, All-append, All-head, All-tail}
use Rattle.byteorder.specs.Endian.{little_number}
use Rattle.gate_journal.specs.declared.batches.Range.{Range}
use Rattle.gate_journal.specs.declared.batches.Batch.{Batch}
use Rattle.gate_journal.specs.Batches.{range_bytes, Stands, range_of, range_at, put_first, range_then, ranges_at, batch_of, batch_and, batch_behind, batch_at, numbered, batches_at}
use Rattle.gate_journal.specs.Journal.{last_after, all_ranges}
use Rattle.gate_journal.specs.Reading.{TellsFilled, IsPut, IsRead, Breaks}
use Rattle.gate_journal.proofs.Bounds.{batches_within}
use Rattle.gate_journal.proofs.ReadBatches.{read_front, read_step, put_last}

-- ---- a record

-- nothing is there where the test fails, nor where nothing is there anyway
none_if : {A : Type 0} (b : Bool) (o : Option A) → (b ≡ true → o ≡ None) → cond b o None ≡ None
none_if true o h = h refl
none_if false o h = refl

named_range : (size off len : ℕ) (bytes : List ℕ) → 12 ≤ length bytes → off ≡ little_number 8 bytes → len ≡ little_number 4 (drop 8 bytes) → range_at size bytes ≡ range_of size off len (drop 12 bytes)
named_range size off len bytes long o l =
    ap (λ b. cond b (range_of size (little_number 8 bytes) (little_number 4 (drop 8 bytes)) (drop 12 bytes)) None) (le-leb 12 (length bytes) long)
    ∙ ap (λ z. range_of size z (little_number 4 (drop 8 bytes)) (drop 12 bytes)) (sym o) ∙ ap (λ z. range_of size off z (drop 12 bytes)) (sym l)

pub range_missing : (size off len : ℕ) (bytes : List ℕ) → 12 ≤ length bytes → off ≡ little_number 8 bytes → len ≡ little_number 4 (drop 8 bytes) → (1 ≤ len → off + len ≤ size → len ≤ length (drop 12 bytes) → ⊥) → range_at size bytes ≡ None
range_missing size off len bytes long o l cannot =
    let tail : List ℕ = drop 12 bytes in
    let test : Bool = leb 1 len && (leb (off + len) size && leb len (length tail)) in
    named_range size off len bytes long o l
    ∙ none_if test (Some (record { off = off; bytes = take len tail }, drop len tail)) (λ t.
    let one = and_parts _ _ t in
    let two = and_parts _ _ one.1 in
    absurd (cannot (leb-true _ _ one.0) (leb-true _ _ two.0) (leb-true _ _ two.1)))

pub range_found : (size off len : ℕ) (bytes body rest : List ℕ) → 12 ≤ length bytes → off ≡ little_number 8 bytes → len ≡ little_number 4 (drop 8 bytes) → 1 ≤ len → off + len ≤ size → len ≤ length (drop 12 bytes)
    → body ≡ take len (drop 12 bytes) → rest ≡ drop len (drop 12 bytes) → range_at size bytes ≡ Some (record { off = off; bytes = body }, rest)
range_found size off len bytes body rest long o l some inside within b r =
    let tail : List ℕ = drop 12 bytes in
    named_range size off len bytes long o l
    ∙ ap (λ z. cond z (Some (record { off = off; bytes = take len tail }, drop len tail)) None) (and_from _ _ (le-leb 1 len some) (and_from _ _ (le-leb (off + len) size inside) (le-leb len (length tail) within)))
    ∙ ap (λ z. Some (record { off = off; bytes = z }, drop len tail)) (sym b) ∙ ap (λ z. Some (record { off = off; bytes = body }, z)) (sym r)

-- ---- records one behind the other

-- ranges put in front of those that were read
abbrev pub put_all : List Range → Option (List Range × List ℕ) → Option (List Range × List ℕ)
put_all done None = None
put_all done (Some read) = Some (done ++ read.0, read.1)

put_all_first : (done : List Range) (r : Range) (o : Option (List Range × List ℕ)) → put_all done (put_first r o) ≡ put_all (done ++ r ∷ []) o
put_all_first done r None = refl
put_all_first done r (Some read) = ap (λ z. Some (z, read.1)) (sym (append_assoc done (r ∷ []) read.0))

pub ranges_further : (size n m : ℕ) (all : Option (List Range × List ℕ)) (done : List Range) (rest behind : List ℕ) (r : Range) → all ≡ put_all done (ranges_at size n rest) → n ≡ suc m → range_at size rest ≡ Some (r, behind)
    → all ≡ put_all (done ++ r ∷ []) (ranges_at size m behind)
ranges_further size n m all done rest behind r p e i =
    p ∙ ap (λ z. put_all done (ranges_at size z rest)) e ∙ ap (λ z. put_all done (range_then (ranges_at size m) z)) i ∙ put_all_first done r (ranges_at size m behind)

pub ranges_end : (size n m : ℕ) (all : Option (List Range × List ℕ)) (done : List Range) (rest : List ℕ) → all ≡ put_all done (ranges_at size n rest) → n ≡ suc m → range_at size rest ≡ None → all ≡ None
ranges_end size n m all done rest p e i =
    p ∙ ap (λ z. put_all done (ranges_at size z rest)) e ∙ ap (λ z. put_all done (range_then (ranges_at size m) z)) i

pub ranges_last : (size n : ℕ) (all : Option (List Range × List ℕ)) (done : List Range) (rest : List ℕ) → all ≡ put_all done (ranges_at size n rest) → n ≡ 0 → all ≡ Some (done, rest)
ranges_last size n all done rest p e = p ∙ ap (λ z. put_all done (ranges_at size z rest)) e ∙ ap (λ z. Some (z, rest)) (append-nil done)

pub filled_told : (size records : ℕ) (bytes rest : List ℕ) (old new done : List Range) (b : Bool) → b ≡ eqb (length rest) 0 → ranges_at size records bytes ≡ Some (done, rest) → new ≡ old ++ done → TellsFilled size records bytes old new b
filled_told size records bytes rest old new done true t p e =
    record { ranges = done; whole = p ∙ ap (λ z. Some (done, z)) (nil_from_length rest (eqb-true (length rest) 0 (sym t))); last = e }
filled_told size records bytes rest old new done false t p e =
    λ number. ap (batch_of number) p ∙ cond-false (eqb (length rest) 0) (Some (record { number = number; ranges = done })) None (sym t)

-- ---- a batch

named_batch : (size number count records : ℕ) (bytes : List ℕ) → 16 ≤ length bytes → number ≡ little_number 8 bytes → count ≡ little_number 4 (drop 8 bytes) → records ≡ little_number 4 (drop 12 bytes) → batch_at size bytes ≡ batch_behind size number count records (drop 16 bytes)
named_batch size number count records bytes long n c r =
    ap (λ b. cond b (batch_behind size (little_number 8 bytes) (little_number 4 (drop 8 bytes)) (little_number 4 (drop 12 bytes)) (drop 16 bytes)) None) (le-leb 16 (length bytes) long)
    ∙ ap (λ z. batch_behind size z (little_number 4 (drop 8 bytes)) (little_number 4 (drop 12 bytes)) (drop 16 bytes)) (sym n)
    ∙ ap (λ z. batch_behind size number z (little_number 4 (drop 12 bytes)) (drop 16 bytes)) (sym c)
    ∙ ap (λ z. batch_behind size number count z (drop 16 bytes)) (sym r)

-- the batch in front of the bytes breaks the format where its records don't fill the bytes that its header names
pub batch_unfilled : (size number count records : ℕ) (before : Option ℕ) (bytes body : List ℕ) → 16 ≤ length bytes → number ≡ little_number 8 bytes → count ≡ little_number 4 (drop 8 bytes) → records ≡ little_number 4 (drop 12 bytes) → body ≡ take count (drop 16 bytes)
    → batch_of number (ranges_at size records body) ≡ None → numbered before (batch_at size bytes) ≡ None
batch_unfilled size number count records before bytes body long n c r b p =
    let tail : List ℕ = drop 16 bytes in
    ap (numbered before) (named_batch size number count records bytes long n c r
    ∙ none_if (leb count (length tail)) (batch_and (drop count tail) (batch_of number (ranges_at size records (take count tail))))
    (λ _. ap (λ z. batch_and (drop count tail) (batch_of number (ranges_at size records z))) (sym b) ∙ ap (batch_and (drop count tail)) p))

-- ---- batches one behind the other

last_of_more : (before : Option ℕ) (batches : List Batch) (b : Batch) → last_after before (batches ++ b ∷ []) ≡ Some b.number
last_of_more before [] b = refl
last_of_more before (x ∷ xs) b = last_of_more (Some x.number) xs b

ranges_of_more : (batches : List Batch) (b : Batch) → all_ranges (batches ++ b ∷ []) ≡ all_ranges batches ++ b.ranges
ranges_of_more [] b = append-nil b.ranges
ranges_of_more (x ∷ xs) b = ap (λ z. x.ranges ++ z) (ranges_of_more xs b) ∙ sym (append_assoc x.ranges (all_ranges xs) b.ranges)

-- so many batches were read: their ranges, the last number, and what follows them
pub record SoFar (size n : ℕ) (area : List ℕ) (ranges : List Range) (last : Option ℕ) (rest : List ℕ) : Type 0 where
  pub batches : List Batch
  pub whole : batches_at size None n area ≡ Some (batches, rest)
  pub in_order : ranges ≡ all_ranges batches
  pub ends : last ≡ last_after None batches

pub so_far_more : (size n : ℕ) (area : List ℕ) (old new : List Range) (last : Option ℕ) (rest : List ℕ) (number : ℕ) (behind : List ℕ) → SoFar size n area old last rest → IsPut size last rest old new number behind → SoFar size (n + 1) area new (Some number) behind
so_far_more size n area old new last rest number behind s put =
    let b : Batch = record { number = number; ranges = put.ranges } in
    let found : numbered (last_after None s.batches) (batch_at size rest) ≡ Some (b, behind) = ap (λ z. numbered z (batch_at size rest)) (sym s.ends) ∙ put.whole in
    record {
      batches = s.batches ++ b ∷ [];
      whole = read_step size n None area s.batches rest s.whole ∙ ap (put_last s.batches) found;
      in_order = put.last ∙ ap (λ z. z ++ put.ranges) s.in_order ∙ sym (ranges_of_more s.batches b);
      ends = sym (last_of_more None s.batches b);
    }

pub so_far_breaks : (size n place : ℕ) (area : List ℕ) (ranges : List Range) (last : Option ℕ) (rest : List ℕ) → SoFar size n area ranges last rest → numbered last (batch_at size rest) ≡ None → place ≡ length area - length rest → Breaks size area n place
so_far_breaks size n place area ranges last rest s none p =
    let front = read_front size n None area s.batches rest s.whole in
    record {
      before = s.batches;
      rest = rest;
      whole = s.whole;
      broken = read_step size n None area s.batches rest s.whole ∙ ap (put_last s.batches) (ap (λ z. numbered z (batch_at size rest)) (sym s.ends) ∙ none);
      start = omega (arith, ap length front.1, length-append front.0 rest, front.2, p);
    }

pub so_far_read : (size n used : ℕ) (area : List ℕ) (ranges : List Range) (last : Option ℕ) (rest : List ℕ) → SoFar size n area ranges last rest → used ≡ length area - length rest → IsRead size n area (record { ranges = ranges; used = used; last = last })
so_far_read size n used area ranges last rest s u =
    let front = read_front size n None area s.batches rest s.whole in
    record {
      batches = s.batches;
      rest = rest;
      whole = s.whole;
      ranges = s.in_order;
      used = omega (arith, ap length front.1, length-append front.0 rest, front.2, u);
      last = s.ends;
    }

-- their ranges have no more bytes than they take
pub so_far_bytes : (size n used : ℕ) (area : List ℕ) (ranges : List Range) (last : Option ℕ) (rest : List ℕ) → SoFar size n area ranges last rest → used ≡ length area - length rest → range_bytes ranges ≤ used
so_far_bytes size n used area ranges last rest s u =
    let read = so_far_read size n used area ranges last rest s u in
    omega (arith, ap range_bytes read.ranges, batches_within read.batches, read.used)

all_stand : (size : ℕ) (batches : List Batch) → All (λ b. All (Stands size) b.ranges) batches → All (Stands size) (all_ranges batches)
all_stand size [] h = All-nil (Stands size)
all_stand size (b ∷ bs) h = All-append (Stands size) b.ranges (all_ranges bs) (All-head (λ (x : Batch). All (Stands size) x.ranges) b bs h) (all_stand size bs (All-tail (λ (x : Batch). All (Stands size) x.ranges) b bs h))

pub so_far_stands : (size n : ℕ) (area : List ℕ) (ranges : List Range) (last : Option ℕ) (rest : List ℕ) → SoFar size n area ranges last rest → All (Stands size) ranges
so_far_stands size n area ranges last rest s =
    let front = read_front size n None area s.batches rest s.whole in
    subst (All (Stands size)) (sym s.in_order) (all_stand size s.batches front.3.stand)

pub rest_within : (size n : ℕ) (area : List ℕ) (ranges : List Range) (last : Option ℕ) (rest : List ℕ) → SoFar size n area ranges last rest → length rest ≤ length area
rest_within size n area ranges last rest s =
    let front = read_front size n None area s.batches rest s.whole in
    omega (arith, ap length front.1, length-append front.0 rest)

pub so_far_none : (size : ℕ) (area : List ℕ) (ranges : List Range) → ranges ≡ [] → SoFar size 0 area ranges None area
so_far_none size area ranges e = record { batches = []; whole = refl; in_order = e; ends = refl }
