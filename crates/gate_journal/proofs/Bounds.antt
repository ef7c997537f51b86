-- A batch that has room fits its fields.
use Rattle.std.proofs.Common.{◌≡◌, ℕ, ◌+◌, ◌≤◌, ◌<◌, ◌^◌, List, [], ◌∷◌, ◌++◌, length, ap, arith, length-append}
use Rattle.std.specs.List.{All}
use Rattle.std.proofs.lemmas.List.Sums.{sum_by-append, sum_by-cons}
use Rattle.byteorder.specs.Endian.{little_bytes}
use Rattle.gate_journal.specs.declared.batches.Range.{Range}
use Rattle.gate_journal.specs.declared.batches.Batch.{Batch}
use Rattle.gate_journal.specs.Offsets.{records_size}
use Rattle.gate_journal.specs.Batches.{record_bytes, records_bytes, batch_bytes, batches_bytes, range_bytes, Stands, Fits}
use Rattle.gate_journal.specs.Journal.{all_ranges}
use Rattle.gate_journal.proofs.Sizes.{count_within, record_length}

-- a header has 16 bytes
pub batch_long : (b : Batch) → length (batch_bytes b) ≡ 16 + length (records_bytes b.ranges)
batch_long b = omega (arith, length-append (little_bytes 8 b.number) (little_bytes 4 (length (records_bytes b.ranges)) ++ (little_bytes 4 (length b.ranges) ++ records_bytes b.ranges)))

offsets_fit : (size : ℕ) (ranges : List Range) → size < 2 ^ 64 → All (Stands size) ranges → All (λ (r : Range). r.off < 2 ^ 64) ranges
offsets_fit size ranges small stand = λ k r less. let s = stand k r less in omega (arith, s.inside, small)

-- a batch that has room fits its fields
pub fits_fields : (size : ℕ) (b : Batch) (used : ℕ) → size < 2 ^ 64 → b.number < 2 ^ 64 → used + length (batch_bytes b) ≤ records_size → All (Stands size) b.ranges → Fits size b
fits_fields size b used small number room stand = record {
  each = stand;
  number = number;
  offsets = offsets_fit size b.ranges small stand;
  few = omega (arith, batch_long b, count_within b.ranges, room);
  short = omega (arith, batch_long b, room);
}

-- ---- the bytes of ranges

-- ranges have no more bytes than their records
bytes_within : (xs : List Range) → range_bytes xs ≤ length (records_bytes xs)
bytes_within [] = omega arith
bytes_within (x ∷ xs) =
    let all : range_bytes (x ∷ xs) ≡ length x.bytes + range_bytes xs = sum_by-cons (λ (r : Range). length r.bytes) x xs in
    let long : length (records_bytes (x ∷ xs)) ≡ length (record_bytes x) + length (records_bytes xs) = length-append (record_bytes x) (records_bytes xs) in
    omega (arith, all, long, record_length x, bytes_within xs)

bytes_of_both : (xs ys : List Range) → range_bytes (xs ++ ys) ≡ range_bytes xs + range_bytes ys
bytes_of_both xs ys = sum_by-append (λ (r : Range). length r.bytes) xs ys

-- and those of batches no more than the batches
pub batches_within : (bs : List Batch) → range_bytes (all_ranges bs) ≤ length (batches_bytes bs)
batches_within [] = omega arith
batches_within (b ∷ bs) =
    let long : length (batches_bytes (b ∷ bs)) ≡ length (batch_bytes b) + length (batches_bytes bs) = length-append (batch_bytes b) (batches_bytes bs) in
    omega (arith, bytes_of_both b.ranges (all_ranges bs), bytes_within b.ranges, batch_long b, long, batches_within bs)

-- with one batch more it stays so
pub more_within : (ranges : List Range) (used : ℕ) (b : Batch) → range_bytes ranges ≤ used → range_bytes (ranges ++ b.ranges) ≤ used + length (batch_bytes b)
more_within ranges used b within = omega (arith, bytes_of_both ranges b.ranges, bytes_within b.ranges, batch_long b, within)
