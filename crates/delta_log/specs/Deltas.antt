-- Raised counters and flipped bits.
use Rattle.std.specs.Prelude.{◌≡◌, ℕ, ℤ, Bool, true, false, List}
use Rattle.std.specs.Int.{w64, cast_unsigned}
use Rattle.std.specs.List.{list_all}
use Rattle.ccfs_base.specs.declared.records.Rec.{Rec}
use Rattle.ccfs_base.specs.declared.records.Rec.TheVariants as recs
use Rattle.ccfs_base.specs.Logs.{Call}

-- the call that raises a counter by a number that may be negative: by -1 it raises it by 2^64 - 1
abbrev pub add_call : ℕ → ℕ → ℤ → Call
add_call stream off by = record { stream = stream; rec = recs.Add off (cast_unsigned w64 by) }

-- the call that sets or clears a bit: `bit_call 3 9 1 true` sets bit 1 of byte 9 for stream 3
abbrev pub bit_call : ℕ → ℕ → ℕ → Bool → Call
bit_call stream off bit on = record { stream = stream; rec = recs.Bit off bit on }

-- whether a record is a raise or a flip: `Bit 9 1 true` is, and `Range 9 []` isn't
abbrev pub is_delta : Rec → Bool
is_delta (recs.Range at bytes) = false
is_delta (recs.Add at by) = true
is_delta (recs.Bit at bit on) = true

-- all records are raises and flips
abbrev pub AreDeltas : (ℕ → List Rec) → Type 0
AreDeltas log = (stream : ℕ) → list_all is_delta (log stream) ≡ true
