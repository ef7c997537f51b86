-- Why a half isn't loaded, and what a cleared half is.
use Rattle.std.specs.Prelude.{◌≡◌, ℕ, ◌+◌, ◌/◌, ◌<◌, Bool, false, None, List, []}
use Rattle.gate_journal.specs.declared.reading.ReadBatches.{ReadBatches}
use Rattle.gate_journal.specs.declared.faults.LoadFault.{LoadFault}
use Rattle.gate_journal.specs.declared.faults.LoadFault.TheVariants.{Device, NoMemory, BadJournal}
use Rattle.gate_journal.specs.Offsets.{records_start}
use Rattle.gate_journal.specs.Journal.{Journal, open_gates, records_of}
use Rattle.gate_journal.specs.Reading.{Breaks}

-- The open batch with this number from 0 is the first that breaks the format, and its first byte is in this block. A
-- batch that would begin at the end of half 0's record area is in block 132.
pub record BreaksAt (half size : ℕ) (c : List ℕ) (batch block : ℕ) : Type 0 where
  pub counts : batch < open_gates half c
  pub place : ℕ
  pub breaks : Breaks size (records_of half c) batch place
  pub in_block : block ≡ (records_start half + place) / 4096

-- what a refusal says of the contents: a bad journal in half 1, that the half asked for was 1 and that its batch breaks
-- the format there, and `Device` and `NoMemory` nothing
abbrev pub Refuses : ℕ → ℕ → List ℕ → LoadFault → Type 0
Refuses half size c Device = Unit {0}
Refuses half size c NoMemory = Unit {0}
Refuses half size c (BadJournal h batch block) = (h ≡ half) × BreaksAt half size c batch block

-- the journal of a half whose gates are all closed: all 524,288 bytes of its record area have room
abbrev pub empty : Journal
empty = record { count = 0; used = 0; last = None; ranges = []; behind = false }

-- the journal of so many open gates, from what was read behind them: with 2 gates and 58 bytes that the batches take, 2
-- batches that take 58 bytes
abbrev pub journal_read : Bool → ℕ → ReadBatches → Journal
journal_read behind count read = record { count = count; used = read.used; last = read.last; ranges = read.ranges; behind = behind }
