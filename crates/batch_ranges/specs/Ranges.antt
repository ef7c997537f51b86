-- What stands at the places of records, as ranges.
use Rattle.std.specs.Prelude.{ℕ, ◌+◌, ◌≤◌, List, [], ◌∷◌, ◌++◌, length}
use Rattle.std.specs.List.{sum_by}
use Rattle.byteorder.specs.Endian.{little_bytes}
use Rattle.ccfs_base.specs.Places.{part}
use Rattle.ccfs_base.specs.declared.records.Rec.{Rec}
use Rattle.ccfs_base.specs.declared.records.Rec.TheVariants as recs
use Rattle.ccfs_base.specs.Records.{recorded, all_recorded}
use Rattle.gate_journal.specs.declared.batches.Range.{Range}

-- the first byte in which a record acts, and how many they are: a counter has 8, and a bit stands in 1
abbrev pub off_of : Rec → ℕ
off_of (recs.Range off bytes) = off
off_of (recs.Add off by) = off
off_of (recs.Bit off bit on) = off

abbrev pub size_of : Rec → ℕ
size_of (recs.Range off bytes) = length bytes
size_of (recs.Add off by) = 8
size_of (recs.Bit off bit on) = 1

-- each of these records acts in at least one byte: a range of no bytes doesn't, and a counter and a bit do
abbrev pub AreSome : List Rec → Type 0
AreSome [] = Unit {0}
AreSome (rec ∷ rest) = (1 ≤ size_of rec) × AreSome rest

-- what stands in these bytes: in 5 6 7 8, of bit 2 of byte 1, the range 6 at 1
abbrev pub range_at : List ℕ → Rec → Range
range_at bytes rec = record { off = off_of rec; bytes = part (off_of rec) (size_of rec) bytes }

-- what stands there behind each of some records, which are put on bytes in their order: in 5 6, after 7 was put at 0 and then 8 at 0,
-- the ranges 7 at 0 and 8 at 0
abbrev pub left_by : List ℕ → List Rec → List Range
left_by bytes [] = []
left_by bytes (rec ∷ rest) = range_at (recorded bytes rec) rec ∷ left_by (recorded bytes rec) rest

-- what the batch number is written with
abbrev pub number_range : ℕ → Range
number_range number = record { off = 0; bytes = little_bytes 8 number }

-- the ranges of a batch: what stands behind each of its records, put on the metadata in their order, and then its number
abbrev pub ranges_by : List ℕ → List Rec → ℕ → List Range
ranges_by metadata records number = left_by metadata records ++ number_range number ∷ []

-- the record that writes the batch number
abbrev pub number_record : ℕ → Rec
number_record number = recs.Range 0 (little_bytes 8 number)

-- the metadata behind all of them
abbrev pub metadata_after : List ℕ → List Rec → ℕ → List ℕ
metadata_after metadata records number = recorded (all_recorded metadata records) (number_record number)

-- how many bytes the batch of records has: a header of 16, the 20 of the batch number, and 12 before what each record acts in. For one
-- add it has 56
abbrev pub batch_size : List Rec → ℕ
batch_size records = 36 + sum_by (λ rec. 12 + size_of rec) records
