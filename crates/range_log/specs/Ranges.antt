-- Ranges of streams, and the bytes that they share.
use Rattle.std.specs.Prelude.{◌≡◌, ℕ, ◌+◌, ◌≤◌, max, min, Bool, true, false, not, ◌||◌, ◌==◌, nat_lt, List, [], length}
use Rattle.std.specs.List.{list_all, range_with_len}
use Rattle.ccfs_base.specs.declared.records.Rec.{Rec}
use Rattle.ccfs_base.specs.declared.records.Rec.TheVariants as recs
use Rattle.ccfs_base.specs.Logs.{Call}
use Rattle.record_logs.specs.Kept.{streams}

-- the call that puts bytes at a place
abbrev pub range_call : ℕ → ℕ → List ℕ → Call
range_call stream off bytes = record { stream = stream; rec = recs.Range off bytes }

-- whether so many bytes from one place share a byte with so many from another: 3 from 5 and 2 from 7 share byte 7. No bytes
-- share none
abbrev pub share : ℕ → ℕ → ℕ → ℕ → Bool
share off len at size = nat_lt (max off at) (min (off + len) (at + size))

-- whether a record is a range that shares a byte with so many from a place on
abbrev pub is_touched : ℕ → ℕ → Rec → Bool
is_touched off len (recs.Range at bytes) = share off len at (length bytes)
is_touched off len (recs.Add at by) = false
is_touched off len (recs.Bit at bit on) = false

-- whether no range of another stream shares a byte with so many from a place on
unfoldable pub is_clear_of : (ℕ → List Rec) → ℕ → ℕ → ℕ → Bool
is_clear_of log stream off len =
    list_all (λ other. other == stream || list_all (λ rec. not (is_touched off len rec)) (log other)) (range_with_len 0 streams)

-- whether a record is a range
abbrev pub is_range : Rec → Bool
is_range (recs.Range at bytes) = true
is_range (recs.Add at by) = false
is_range (recs.Bit at bit on) = false

-- all records are ranges
abbrev pub AreRanges : (ℕ → List Rec) → Type 0
AreRanges log = (stream : ℕ) → list_all is_range (log stream) ≡ true

-- whether a range shares no byte with a range of another stream
abbrev pub is_apart_from : (ℕ → List Rec) → ℕ → Rec → Bool
is_apart_from log stream (recs.Range at bytes) = is_clear_of log stream at (length bytes)
is_apart_from log stream (recs.Add at by) = true
is_apart_from log stream (recs.Bit at bit on) = true

-- no two ranges of different streams share a byte
abbrev pub AreApartByStreams : (ℕ → List Rec) → Type 0
AreApartByStreams log = (stream : ℕ) → list_all (is_apart_from log stream) (log stream) ≡ true

-- All records are ranges, those of different streams share no byte, and no stream past the last has any.
pub record IsHeld (log : ℕ → List Rec) : Type 0 where
  pub ranges : AreRanges log
  pub apart : AreApartByStreams log
  pub none : (stream : ℕ) → streams ≤ stream → log stream ≡ []
