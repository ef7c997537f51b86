-- The journal of a half on an image: its open gates, and the batches that count.
use Rattle.std.specs.Prelude.{◌==◌, ℕ, Bool, not, Option, Some, None, List, [], ◌∷◌, length, drop, flat_map}
use Rattle.std.specs.List.{list_any, position_or_len}
use Rattle.disk_model.specs.Bytes.{part}
use Rattle.gate_journal.specs.declared.batches.Range.{Range}
use Rattle.gate_journal.specs.declared.batches.Batch.{Batch}
use Rattle.gate_journal.specs.Offsets.{gates_start, records_start, records_size}
use Rattle.gate_journal.specs.Batches.{batches_bytes, batches_at}

-- whether a gate's batch counts: the byte 0xA5 says yes, and every other byte no
abbrev pub is_open : ℕ → Bool
is_open gate = gate == 165

-- the gate bytes of a half
abbrev pub gates_of : ℕ → List ℕ → List ℕ
gates_of half c = part (gates_start half) 4096 c

-- the bytes of its record area
abbrev pub records_of : ℕ → List ℕ → List ℕ
records_of half c = part (records_start half) records_size c

-- how many gates are open before the first closed one: of the gates A5 A5 00 A5 two
abbrev pub open_gates : ℕ → List ℕ → ℕ
open_gates half c = position_or_len (λ gate. not (is_open gate)) (gates_of half c)

-- whether a gate behind the first closed one is open: of the gates A5 A5 00 A5 one is
abbrev pub is_open_behind : ℕ → List ℕ → Bool
is_open_behind half c = list_any is_open (drop (open_gates half c) (gates_of half c))

abbrev pub batches_read : Option (List Batch × List ℕ) → Option (List Batch)
batches_read None = None
batches_read (Some read) = Some read.0

-- the open batches of a half, over a volume of this size in bytes: as many as gates are open before the first closed
-- one, from the start of the record area on. None where one of them breaks the format
abbrev pub open_batches : ℕ → ℕ → List ℕ → Option (List Batch)
open_batches half size c = batches_read (batches_at size None (open_gates half c) (records_of half c))

-- the number of the last batch, or this one where there is no batch
abbrev pub last_after : Option ℕ → List Batch → Option ℕ
last_after before [] = before
last_after before (b ∷ bs) = last_after (Some b.number) bs

-- the ranges of batches, in order
abbrev pub all_ranges : List Batch → List Range
all_ranges batches = flat_map (λ b. b.ranges) batches

-- What the journal of a half comes to.
pub record Journal : Type 0 where
  -- how many batches are open
  pub count : ℕ
  -- how many bytes of the record area they take
  pub used : ℕ
  -- the number of the last one
  pub last : Option ℕ
  -- their ranges, in order
  pub ranges : List Range
  -- whether a gate behind the first closed one is open
  pub behind : Bool

abbrev pub summed : Bool → Option (List Batch) → Option Journal
summed behind None = None
summed behind (Some batches) = Some (record { count = length batches; used = length (batches_bytes batches); last = last_after None batches; ranges = all_ranges batches; behind = behind })

-- the journal of a half, where no open batch breaks the format
abbrev pub journal : ℕ → ℕ → List ℕ → Option Journal
journal half size c = summed (is_open_behind half c) (open_batches half size c)
