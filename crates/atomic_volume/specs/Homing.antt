-- What a checkpoint does: the ranges of the active half are put home, and the other half becomes the active one.
use Rattle.std.specs.Prelude.{◌≡◌, ◌==◌, ◌⊎◌, ℕ, ◌+◌, ◌-◌, ◌≤◌, ◌<◌, cond, Some, None, option_map, List, ◌++◌, length, take, replicate, slice_index}
use Rattle.std.specs.List.{All}
use Rattle.gate_journal.specs.declared.batches.Range.{Range}
use Rattle.gate_journal.specs.declared.halves.Half.{Half}
use Rattle.disk_model.specs.Bytes.{patched}
use Rattle.gate_journal.specs.Offsets.{gates_start}
use Rattle.gate_journal.specs.Halves.{half_of, size_of, journal_of, Shows}
use Rattle.atomic_volume.specs.Opening.{Contents, volume_place, volume_area, active_half, put_on, opened}

-- the other half: 0 for 1, and 1 for 0
abbrev pub other_half : ℕ → ℕ
other_half half = 1 - half

-- an image with ranges put on its volume area
abbrev pub put_home : List ℕ → List Range → List ℕ
put_home image ranges = take volume_place image ++ put_on (volume_area image) ranges

-- a place of an image that isn't in the home of a range. The range 7 8 at offset 0 has its home at 1,064,960 and 1,064,961
abbrev pub IsApart : List Range → ℕ → Type 0
IsApart ranges k = All (λ r. (k < volume_place + r.off) ⊎ (volume_place + r.off + length r.bytes ≤ k)) ranges

-- Any bytes in the homes of ranges, and all else as before: what unfinished writes of ranges to their homes leave.
pub record Scattered (ranges : List Range) (old new : List ℕ) : Type 0 where
  pub size : length new ≡ length old
  pub each : (k : ℕ) → IsApart ranges k → slice_index new k ≡ slice_index old k

-- an image that comes by a step from one of these
abbrev pub Comes : (List ℕ → List ℕ → Type 0) → (List ℕ → Type 0) → List ℕ → Type 0
Comes step images c = (d : List ℕ) × images d × step d c

-- contents whose batches are all home: the same, and no batch is open
abbrev pub at_home : Contents → Contents
at_home contents = record contents { last = None }

-- an image opens as another does
abbrev pub OpensLike : List ℕ → List ℕ → Type 0
OpensLike d c = opened c ≡ opened d

-- an image opens as another does, or to the same without open batches
abbrev pub OpensAs : List ℕ → List ℕ → Type 0
OpensAs d c = (opened c ≡ opened d) ⊎ (opened c ≡ option_map at_home (opened d))

-- An image on the way of a checkpoint: it opens as an image that a crash at the start may leave, or to the contents at the
-- start without open batches, which were made stable before the other half was named.
abbrev pub IsMoved : Contents → (List ℕ → Type 0) → List ℕ → Type 0
IsMoved contents images c = ((d : List ℕ) × images d × (opened c ≡ opened d)) ⊎ (opened c ≡ Some (at_home contents))

-- the same, by what a read gave at the start in place of the contents that it opens to
abbrev pub IsMovedFrom : List ℕ → (List ℕ → Type 0) → List ℕ → Type 0
IsMovedFrom now images c = Comes OpensLike images c ⊎ (opened c ≡ option_map at_home (opened now))

-- An image has this half as its active one.
pub record Bears (half : Half) (c : List ℕ) : Type 0 where
  pub shows : Shows half c
  pub active : half_of half ≡ active_half c
  pub size : size_of half ≡ length (volume_area c)

-- the master byte that names a half
abbrev pub master_of : ℕ → ℕ
master_of half = cond (half == 1) 165 0

-- an image whose ranges were put home and whose other half's gates were closed
abbrev pub made_ready : Half → List ℕ → List ℕ
made_ready half c = patched (put_home c (journal_of half).ranges) (gates_start (other_half (half_of half))) (replicate 4096 0)
