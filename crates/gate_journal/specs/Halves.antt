-- What callers see of a journal half.
use Rattle.std.specs.Prelude.{◌≡◌, ℕ, ◌+◌, ◌≤◌, Bool, ◌&&◌, not, nat_le, nat_lt, true, Some, List, ◌++◌, length}
use Rattle.std.specs.List.{All}
use Rattle.gate_journal.specs.declared.batches.Batch.{Batch}
use Rattle.gate_journal.specs.declared.halves.Half.{Half}
use Rattle.gate_journal.specs.Offsets.{records_size, halves_end}
use Rattle.gate_journal.specs.Batches.{batch_bytes, Stands, may_follow}
use Rattle.gate_journal.specs.Journal.{Journal, journal}

-- which half it is, 0 or 1
abbrev pub half_of : Half → ℕ
half_of h = h.half

-- the size of the volume in bytes
abbrev pub size_of : Half → ℕ
size_of h = h.size

-- the journal that it knows
abbrev pub journal_of : Half → Journal
journal_of h = record { count = h.count; used = h.used; last = h.last; ranges = h.ranges; behind = h.behind }

-- an image shows this half: it has the places of both, and the half's journal is the known one
pub record Shows (h : Half) (c : List ℕ) : Type 0 where
  pub inside : halves_end ≤ length c
  pub journal : journal (half_of h) (size_of h) c ≡ Some (journal_of h)

-- so many bytes, a header included, have room behind the last batch and a gate, and no gate behind that one is open
abbrev pub fits : Journal → ℕ → Bool
fits j bytes = nat_lt j.count 4096 && (not j.behind && nat_le (j.used + bytes) records_size)

-- a batch may come behind these: its ranges stand in the volume, and its number is the next one where there is a last
pub record MayFollow (size : ℕ) (j : Journal) (b : Batch) : Type 0 where
  pub ranges : All (Stands size) b.ranges
  pub number : may_follow j.last b.number ≡ true

-- the journal with one batch more
abbrev pub with_batch : Journal → Batch → Journal
with_batch j b = record { count = j.count + 1; used = j.used + length (batch_bytes b); last = Some b.number; ranges = j.ranges ++ b.ranges; behind = j.behind }
