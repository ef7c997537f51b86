-- The spots that calls act on, and the records that a call there disturbs.
use Rattle.std.specs.Prelude.{◌≡◌, ◌≢◌, ℕ, ◌+◌, ◌<◌, ◌≤◌, Bool, true, false, not, ◌==◌, ◌||◌, List, length}
use Rattle.std.specs.List.{list_all}
use Rattle.ccfs_base.specs.declared.records.Rec.{Rec}
use Rattle.ccfs_base.specs.declared.records.Rec.TheVariants as recs
use Rattle.record_logs.specs.Kept.{streams}
use Rattle.range_log.specs.Ranges.{share}
use Rattle.shared_meta.specs.declared.spots.Spot.{Spot}
use Rattle.shared_meta.specs.declared.spots.Spot.TheVariants as spots
use Rattle.shared_meta.specs.Area.{Area}

-- a record acts on a spot: `Bit 9 1 true` does on bit 1 of byte 9
abbrev pub ActsOn : Spot → Rec → Type 0
ActsOn (spots.Range off len) (recs.Range at bytes) = (off ≡ at) × (len ≡ length bytes)
ActsOn (spots.Counter off) (recs.Add at by) = off ≡ at
ActsOn (spots.Bit off bit) (recs.Bit at other on) = (off ≡ at) × (bit ≡ other)
ActsOn spot rec = ⊥

-- a spot lies in so many bytes: bit 1 of byte 9 does in 10
abbrev pub IsSpotIn : ℕ → Spot → Type 0
IsSpotIn size (spots.Range off len) = off + len ≤ size
IsSpotIn size (spots.Counter off) = off + 8 ≤ size
IsSpotIn size (spots.Bit off bit) = (off < size) × (bit < 8)

-- whether a record acts on one of so many bytes from a place on: `Bit 9 1 true` does for 2 bytes from 8 on
abbrev pub acts_among : ℕ → ℕ → Rec → Bool
acts_among off len (recs.Range at bytes) = share off len at (length bytes)
acts_among off len (recs.Add at by) = share off len at 8
acts_among off len (recs.Bit at bit on) = share off len at 1

-- whether a record raises the counter at a place
abbrev pub raises : ℕ → Rec → Bool
raises off (recs.Range at bytes) = false
raises off (recs.Add at by) = off == at
raises off (recs.Bit at bit on) = false

-- whether a record sets or clears another bit than this one of its byte
abbrev pub is_other_bit : ℕ → Rec → Bool
is_other_bit bit (recs.Range at bytes) = false
is_other_bit bit (recs.Add at by) = false
is_other_bit bit (recs.Bit at other on) = not (bit == other)

-- whether a call at a spot doesn't disturb a record: the raise of a counter doesn't disturb another raise of it
abbrev pub is_free_of : Spot → Rec → Bool
is_free_of (spots.Range off len) rec = not (acts_among off len rec)
is_free_of (spots.Counter off) rec = raises off rec || not (acts_among off 8 rec)
is_free_of (spots.Bit off bit) rec = is_other_bit bit rec || not (acts_among off 1 rec)

-- whether a spot is a range
abbrev pub is_run : Spot → Bool
is_run (spots.Range off len) = true
is_run (spots.Counter off) = false
is_run (spots.Bit off bit) = false

-- With these ranges and these raises and flips, a call of a stream at a spot disturbs no record of other streams, and a range no
-- raise or flip of its own.
pub record IsFreeSpot (puts others : ℕ → List Rec) (caller : ℕ) (spot : Spot) : Type 0 where
  pub ranges : (stream : ℕ) → stream ≢ caller → list_all (is_free_of spot) (puts stream) ≡ true
  pub deltas : (stream : ℕ) → stream ≢ caller → list_all (is_free_of spot) (others stream) ≡ true
  pub own : is_run spot ≡ true → list_all (is_free_of spot) (others caller) ≡ true

-- A call of a stream at a spot may be made, whatever it does there.
pub record MayAct (a : Area) (caller : ℕ) (spot : Spot) : Type 0 where
  pub stream : caller < streams
  pub inside : IsSpotIn (length a.base) spot
  pub free : IsFreeSpot a.ranges a.deltas caller spot
