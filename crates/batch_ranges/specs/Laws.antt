-- What the ranges of a batch do to a volume.
use Rattle.std.specs.Prelude.{◌≡◌, ℕ, ◌<◌, ◌^◌, List, [], ◌∷◌, length}
use Rattle.ccfs_base.specs.declared.records.Rec.{Rec}
use Rattle.ccfs_base.specs.Records.{AreInside}
use Rattle.gate_journal.specs.declared.batches.Range.{Range}
use Rattle.atomic_volume.specs.Opening.{put_on}
use Rattle.tree_model.specs.Rows.{Rows}
use Rattle.image_model.specs.Volumes as volumes
use Rattle.image_model.specs.Volumes.{Volume, metadata}
use Rattle.image_model.specs.Changes.{with_records}
use Rattle.image_model.specs.ChangeLaws.{IsSized}
use Rattle.carried_volumes.specs.Carried.{Carried}
use Rattle.batch_ranges.specs.Ranges.{ranges_by, number_record, metadata_after}

-- a volume with ranges put on its bytes, in their order
abbrev pub with_ranges : Volume → List Range → Volume
with_ranges v ranges = record v { bytes = put_on v.bytes ranges }

-- a volume with a batch number
abbrev pub numbered : ℕ → Volume → Volume
numbered number v = with_records v (number_record number ∷ [])

-- The ranges of a batch, put on a volume, leave what its records and the number leave; and so they do in the metadata.
abbrev pub RangesPutRecords : Type 0
RangesPutRecords = (v : Volume) (records : List Rec) (number : ℕ) → IsSized v → AreInside (length (metadata v)) records
    → (with_ranges v (ranges_by (metadata v) records number) ≡ numbered number (with_records v records))
    × (metadata (numbered number (with_records v records)) ≡ metadata_after (metadata v) records number)

-- A batch number is written, and what the volume carries stays.
abbrev pub NumbersAreBeside : Type 0
NumbersAreBeside = (v : Volume) (t : Rows) (inodes : List ℕ) (number : ℕ) → number < 2 ^ 64 → Carried v t inodes
    → Carried (numbered number v) t inodes × (volumes.number (numbered number v) ≡ number)
