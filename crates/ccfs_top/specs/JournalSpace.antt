-- What batches take of a journal half, where a checkpoint comes before each that doesn't fit.
use Rattle.std.specs.Prelude.{◌≡◌, ℕ, zero, suc, ◌+◌, ◌-◌, Bool, cond, ◌&&◌, not, nat_lt, nat_le, List, length}
use Rattle.std.specs.List.{sum_by}
use Rattle.stream_cuts.specs.Cuts.{batch}
use Rattle.ccfs_base.specs.declared.records.Rec.{Rec}
use Rattle.gate_journal.specs.declared.batches.Batch.{Batch}
use Rattle.gate_journal.specs.declared.halves.Half.{Half}
use Rattle.gate_journal.specs.Offsets.{records_size}
use Rattle.gate_journal.specs.Batches.{batch_bytes}
use Rattle.gate_journal.specs.Journal.{Journal}
use Rattle.gate_journal.specs.Halves.{journal_of, fits, with_batch}
use Rattle.gate_journal.specs.Loading.{empty}
use Rattle.history_model.specs.Histories.{start, charged_in}
use Rattle.batch_ranges.specs.Ranges.{ranges_by}
use Rattle.front_laws.specs.Laws.{update_size}
use Rattle.front_laws.specs.Batches.{batch_at}
use Rattle.front_core.specs.Fronts.{Fronted}
use Rattle.ccfs_top.specs.Runs.{further}

-- ---- the journal with one batch more

-- the records of the batch behind so many seals of a front
abbrev pub recs_at : Fronted → ℕ → List Rec
recs_at front k = (batch_at front.sizes front.opening front.inodes front.entries k).recs

-- that batch, over the metadata at hand, under the number so many behind the first
abbrev pub next_batch : List ℕ → Fronted → ℕ → ℕ → Batch
next_batch at_hand front first k = record {
  number = further first (k + 1);
  ranges = ranges_by at_hand (recs_at front k) (further first (k + 1));
}

-- the journal that a batch of so many bytes is put behind: this one where it fits, and else the empty one that a checkpoint makes
abbrev pub journal_for : Journal → ℕ → Journal
journal_for j bytes = cond (fits j bytes) j empty

-- a half with one batch more: behind those that it had, where the batch fits, and else alone
abbrev pub HasOneMore : Half → Batch → Half → Type 0
HasOneMore old b new = journal_of new ≡ with_batch (journal_for (journal_of old) (length (batch_bytes b))) b

-- ---- the room that many batches take

-- What a half has used up: so many gates, so many bytes of its record area, and whether a gate behind the first closed one
-- is open, so that nothing has room any more.
pub record SpaceUsed : Type 0 where
  pub gates : ℕ
  pub bytes : ℕ
  pub barred : Bool

-- what a journal has used up
abbrev pub space_used : Journal → SpaceUsed
space_used j = record { gates = j.count; bytes = j.used; barred = j.behind }

-- whether a batch of so many bytes has room: a closed gate, and so many bytes that aren't used
abbrev pub has_space : SpaceUsed → ℕ → Bool
has_space room bytes = nat_lt room.gates 4096 && (not room.barred && nat_le (room.bytes + bytes) records_size)

-- the room once that batch is committed
abbrev pub used_by : SpaceUsed → ℕ → SpaceUsed
used_by room bytes = record { gates = room.gates + 1; bytes = room.bytes + bytes; barred = room.barred }

-- the same where a checkpoint comes first just if it has no room. Where 524,200 bytes are used, behind a batch of 100 these 100 are
abbrev pub taken_by : SpaceUsed → ℕ → SpaceUsed
taken_by room bytes = used_by (cond (has_space room bytes) room (space_used empty)) bytes

-- so for batches of these sizes by number, so many of them from the one with number k on, one behind the other
abbrev pub taken_from : SpaceUsed → (ℕ → ℕ) → ℕ → ℕ → SpaceUsed
taken_from room sizes k zero = room
taken_from room sizes k (suc more) = taken_by (taken_from room sizes k more) (sizes (k + more))

-- how many bytes the batch behind so many seals of a front has: a header of 16 bytes, 20 for the batch number, and the records of its
-- updates. That of two made rows has 376
abbrev pub size_at : Fronted → ℕ → ℕ
size_at front k = 36 + sum_by (λ e. update_size e.1.0) (batch (charged_in front.sizes (start front.opening) front.entries) k)

-- A half has taken the batches of a front that take it from so many seals to so many, with no checkpoint but where one didn't fit.
abbrev pub HasTaken : Fronted → ℕ → ℕ → Half → Half → Type 0
HasTaken front k most old new = space_used (journal_of new) ≡ taken_from (space_used (journal_of old)) (size_at front) k (most - k)
