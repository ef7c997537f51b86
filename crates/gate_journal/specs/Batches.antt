-- Batches as bytes, and the batches that bytes spell.
use Rattle.std.specs.Prelude.{◌≡◌, ◌==◌, ℕ, zero, suc, ◌+◌, ◌≤◌, ◌<◌, ◌^◌, Bool, true, cond, ◌&&◌, nat_le, Option, Some, None, List, [], ◌∷◌, ◌++◌, length, take, drop, flat_map}
use Rattle.std.specs.List.{All, sum_by}
use Rattle.byteorder.specs.Endian.{little_bytes, little_number}
use Rattle.gate_journal.specs.declared.batches.Range.{Range}
use Rattle.gate_journal.specs.declared.batches.Batch.{Batch}

-- ---- writing

-- a record: the range's volume offset, its length, and its bytes. The range 7 8 at offset 5 is
-- 5 0 0 0 0 0 0 0, 2 0 0 0, 7 8
abbrev pub record_bytes : Range → List ℕ
record_bytes r = little_bytes 8 r.off ++ (little_bytes 4 (length r.bytes) ++ r.bytes)

-- records one behind the other: of the ranges 7 8 at offset 5 and 9 at offset 0 the record of 14 bytes, and then that of 13
abbrev pub records_bytes : List Range → List ℕ
records_bytes ranges = flat_map record_bytes ranges

-- a batch: its number, how many bytes and how many records follow the header of 16 bytes, and the records. The batch 5
-- with the range 7 8 at offset 5 is 5 0 0 0 0 0 0 0, 14 0 0 0, 1 0 0 0, and the 14 bytes of the record
abbrev pub batch_bytes : Batch → List ℕ
batch_bytes b = little_bytes 8 b.number ++ (little_bytes 4 (length (records_bytes b.ranges)) ++ (little_bytes 4 (length b.ranges) ++ records_bytes b.ranges))

-- batches one behind the other: of two batches without records 32 bytes, the header of the first in front
abbrev pub batches_bytes : List Batch → List ℕ
batches_bytes batches = flat_map batch_bytes batches

-- how many bytes ranges have: the ranges 7 8 and 9 have three
abbrev pub range_bytes : List Range → ℕ
range_bytes ranges = sum_by (λ r. length r.bytes) ranges

-- ---- what may stand in a journal

-- a range of a volume of this size: it isn't empty and doesn't pass the end. In 10 bytes, 7 8 may stand at 8 and not at 9
pub record Stands (size : ℕ) (r : Range) : Type 0 where
  pub some : 1 ≤ length r.bytes
  pub inside : r.off + length r.bytes ≤ size

-- a batch whose ranges stand in the volume and whose numbers fit their fields. In 10 bytes the batch 5 with the range 7 8
-- at offset 8 does, and with that range at offset 9 it doesn't
pub record Fits (size : ℕ) (b : Batch) : Type 0 where
  pub each : All (Stands size) b.ranges
  pub number : b.number < 2 ^ 64
  pub offsets : All (λ r. r.off < 2 ^ 64) b.ranges
  pub few : length b.ranges < 2 ^ 32
  pub short : length (records_bytes b.ranges) < 2 ^ 32

-- the number behind another: 5 behind 4, and 0 behind 2 ^ 64 - 1. Behind none any number may stand
abbrev pub may_follow : Option ℕ → ℕ → Bool
may_follow None number = true
may_follow (Some before) number = number == cond (before + 1 == 2 ^ 64) 0 (before + 1)

-- batches with numbers in a row, the first of them behind this one: 5, 6, 7 behind 4 are, and 5, 7 aren't
abbrev pub InARow : Option ℕ → List Batch → Type 0
InARow before [] = Unit {0}
InARow before (b ∷ bs) = (may_follow before b.number ≡ true) × InARow (Some b.number) bs

-- ---- reading

-- the range of these many bytes in front of the bytes, and what follows it, where it stands in the volume. Of 7 8 9 with
-- length 2 the range 7 8, and 9 follows; with length 0 or 4 none
abbrev pub range_of : ℕ → ℕ → ℕ → List ℕ → Option (Range × List ℕ)
range_of size off len bytes = cond (nat_le 1 len && (nat_le (off + len) size && nat_le len (length bytes))) (Some (record { off = off; bytes = take len bytes }, drop len bytes)) None

-- the range of the record in front of the bytes, and what follows it. Of 5 0 0 0 0 0 0 0, 1 0 0 0, 7 8 the range 7 at
-- offset 5, and 8 follows
abbrev pub range_at : ℕ → List ℕ → Option (Range × List ℕ)
range_at size bytes = cond (nat_le 12 (length bytes)) (range_of size (little_number 8 bytes) (little_number 4 (drop 8 bytes)) (drop 12 bytes)) None

-- something put in front of what was read: a in front of b, c is a, b, c, and what follows stays
abbrev pub put_first : {A : Type 0} → A → Option (List A × List ℕ) → Option (List A × List ℕ)
put_first a None = None
put_first a (Some read) = Some (a ∷ read.0, read.1)

-- a record, and what is read behind it: nothing where either isn't there
abbrev pub range_then : (List ℕ → Option (List Range × List ℕ)) → Option (Range × List ℕ) → Option (List Range × List ℕ)
range_then read None = None
range_then read (Some r) = put_first r.0 (read r.1)

-- that many records in front of the bytes, and what follows them: none in front of any bytes, which follow
abbrev pub ranges_at : ℕ → ℕ → List ℕ → Option (List Range × List ℕ)
ranges_at size zero bytes = Some ([], bytes)
ranges_at size (suc n) bytes = range_then (ranges_at size n) (range_at size bytes)

-- the batch with this number whose records were read, where they fill their bytes: none where a byte follows them
abbrev pub batch_of : ℕ → Option (List Range × List ℕ) → Option Batch
batch_of number None = None
batch_of number (Some read) = cond (length read.1 == 0) (Some (record { number = number; ranges = read.0 })) None

-- a batch and what follows it, where there is a batch: the batch 5 in front of 9 gives both
abbrev pub batch_and : List ℕ → Option Batch → Option (Batch × List ℕ)
batch_and rest None = None
batch_and rest (Some b) = Some (b, rest)

-- the batch whose header names this many bytes and records, from what stands behind the header, and what follows it. With
-- 0 bytes and 0 records it is a batch without ranges, and all that stands there follows
abbrev pub batch_behind : ℕ → ℕ → ℕ → ℕ → List ℕ → Option (Batch × List ℕ)
batch_behind size number count records bytes = cond (nat_le count (length bytes)) (batch_and (drop count bytes) (batch_of number (ranges_at size records (take count bytes)))) None

-- the batch in front of the bytes, and what follows it: its ranges stand in the volume and its records fill just the bytes
-- that its header names. Of the header 5 0 0 0 0 0 0 0, 0 0 0 0, 0 0 0 0 in front of 9 the batch 5 without ranges, and 9
abbrev pub batch_at : ℕ → List ℕ → Option (Batch × List ℕ)
batch_at size bytes = cond (nat_le 16 (length bytes)) (batch_behind size (little_number 8 bytes) (little_number 4 (drop 8 bytes)) (little_number 4 (drop 12 bytes)) (drop 16 bytes)) None

-- the batch that was read, where it may stand behind one with this number: the batch 6 behind 5, and none behind 6
abbrev pub numbered : Option ℕ → Option (Batch × List ℕ) → Option (Batch × List ℕ)
numbered before None = None
numbered before (Some r) = cond (may_follow before r.0.number) (Some r) None

-- a batch, and what is read behind it: nothing where either isn't there
abbrev pub batch_then : (Option ℕ → List ℕ → Option (List Batch × List ℕ)) → Option (Batch × List ℕ) → Option (List Batch × List ℕ)
batch_then read None = None
batch_then read (Some r) = put_first r.0 (read (Some r.0.number) r.1)

-- that many batches in front of the bytes, with numbers in a row behind this one, and what follows them: of the batches
-- 5, 6 and 8, two behind none are 5 and 6, and three aren't there
abbrev pub batches_at : ℕ → Option ℕ → ℕ → List ℕ → Option (List Batch × List ℕ)
batches_at size before zero bytes = Some ([], bytes)
batches_at size before (suc n) bytes = batch_then (λ number rest. batches_at size number n rest) (numbered before (batch_at size bytes))

-- Bytes begin with so many batches, which stand in the volume and have numbers in a row, and the rest follows them. The
-- bytes of the batches 5 and 6 and then 9 begin with two, and 9 is the rest.
pub record IsSpelled (size : ℕ) (before : Option ℕ) (count : ℕ) (bytes : List ℕ) (batches : List Batch) (rest : List ℕ) : Type 0 where
  pub spelled : bytes ≡ batches_bytes batches ++ rest
  pub len : length batches ≡ count
  pub fits : All (Fits size) batches
  pub in_a_row : InARow before batches
