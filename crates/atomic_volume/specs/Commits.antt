-- What a commit leaves.
use Rattle.std.specs.Prelude.{◌≡◌, ◌⊎◌, ℕ, Some, List}
use Rattle.gate_journal.specs.declared.batches.Batch.{Batch}
use Rattle.atomic_volume.specs.Opening.{Contents, put_on, opened}

-- the contents with a batch: its ranges put on the volume, and its number the last
abbrev pub committed : Contents → Batch → Contents
committed contents batch = record contents { bytes = put_on contents.bytes batch.ranges; last = Some batch.number }

-- An image on the way: it opens as an image that a crash at the start may leave, or to the contents at the start with the
-- whole batch.
abbrev pub AllOrNothing : Contents → Batch → (List ℕ → Type 0) → List ℕ → Type 0
AllOrNothing contents batch images c = ((d : List ℕ) × images d × (opened c ≡ opened d)) ⊎ (opened c ≡ Some (committed contents batch))
