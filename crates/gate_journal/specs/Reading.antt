-- What the reading of a record area answers.
use Rattle.std.specs.Prelude.{◌≡◌, ℕ, ◌+◌, ◌<◌, Bool, true, false, Option, Some, None, List, [], ◌++◌, length}
use Rattle.gate_journal.specs.declared.batches.Range.{Range}
use Rattle.gate_journal.specs.declared.batches.Batch.{Batch}
use Rattle.gate_journal.specs.declared.reading.ReadBatches.{ReadBatches}
use Rattle.gate_journal.specs.declared.reading.ReadFault.{ReadFault}
use Rattle.gate_journal.specs.declared.reading.ReadFault.TheVariants.{NoMemory, Broken}
use Rattle.gate_journal.specs.Batches.{batches_bytes, ranges_at, batch_of, batch_at, numbered, batches_at}
use Rattle.gate_journal.specs.Journal.{last_after, all_ranges}

-- so many records fill the bytes, and their ranges were put last. Of 7 0 0 0 0 0 0 0, 1 0 0 0, 9 one record does, and
-- the range 9 at offset 7 is put last
pub record ArePut (size records : ℕ) (bytes : List ℕ) (old new : List Range) : Type 0 where
  pub ranges : List Range
  pub whole : ranges_at size records bytes ≡ Some (ranges, [])
  pub last : new ≡ old ++ ranges

-- the answer whether so many records fill the bytes: where they do, they were put last, and else no batch has them
abbrev pub TellsFilled : ℕ → ℕ → List ℕ → List Range → List Range → Bool → Type 0
TellsFilled size records bytes old new true = ArePut size records bytes old new
TellsFilled size records bytes old new false = (number : ℕ) → batch_of number (ranges_at size records bytes) ≡ None

-- The batch in front of the bytes has this number, which may stand behind that one, and the rest follows it; its ranges
-- were put last.
pub record IsPut (size : ℕ) (before : Option ℕ) (bytes : List ℕ) (old new : List Range) (number : ℕ) (rest : List ℕ) : Type 0 where
  pub ranges : List Range
  pub whole : numbered before (batch_at size bytes) ≡ Some (record { number = number; ranges = ranges }, rest)
  pub last : new ≡ old ++ ranges

-- so many batches were read from the front of the bytes: their ranges, the bytes that they take, and the last number.
-- One batch with number 5 and no record gives no range, 16 bytes, and 5
pub record IsRead (size count : ℕ) (area : List ℕ) (read : ReadBatches) : Type 0 where
  pub batches : List Batch
  pub rest : List ℕ
  pub whole : batches_at size None count area ≡ Some (batches, rest)
  pub ranges : read.ranges ≡ all_ranges batches
  pub used : read.used ≡ length (batches_bytes batches)
  pub last : read.last ≡ last_after None batches

-- The batch with this number from 0 is the first that breaks the format, at this place of the area: the batches before
-- it are read, and with it they aren't. Where the number 9 stands behind 5 in batches without records, batch 1 breaks it
-- at place 16.
pub record Breaks (size : ℕ) (area : List ℕ) (batch place : ℕ) : Type 0 where
  pub before : List Batch
  pub rest : List ℕ
  pub whole : batches_at size None batch area ≡ Some (before, rest)
  pub broken : batches_at size None (batch + 1) area ≡ None
  pub start : place ≡ length (batches_bytes before)

-- what a fault says of so many batches in front of the bytes
abbrev pub WhyUnread : ℕ → ℕ → List ℕ → ReadFault → Type 0
WhyUnread size count area NoMemory = Unit {0}
WhyUnread size count area (Broken batch place) = (batch < count) × Breaks size area batch place
