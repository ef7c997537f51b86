-- The ranges of a batch leave what its records leave.
use Rattle.std.proofs.Common.{◌≡◌, ℕ, ◌+◌, ◌*◌, ◌%◌, ◌≤◌, List, [], ◌∷◌, length, take, sym, ap, ◌∙◌, subst, arith}
use Rattle.std.proofs.lemmas.List.{length-take}
use Rattle.byteorder.specs.Endian.{little_bytes}
use Rattle.block_layout.specs.Sizes.{data_start}
use Rattle.ccfs_base.specs.declared.records.Rec.{Rec}
use Rattle.ccfs_base.specs.Records.{recorded, all_recorded, AreInside}
use Rattle.delta_log.proofs.Records.{all_recorded_length}
use Rattle.atomic_volume.specs.Opening.{put_on}
use Rattle.atomic_volume.proofs.Puts.{put_on-append}
use Rattle.image_model.specs.Fields.{block_place}
use Rattle.image_model.specs.Volumes.{Volume, metadata}
use Rattle.image_model.specs.Changes.{with_records}
use Rattle.image_model.specs.ChangeLaws.{IsSized}
use Rattle.image_model.proofs.ChangingFields.{HasSpace, has_space}
use Rattle.batch_ranges.specs.Laws.{with_ranges, numbered}
use Rattle.batch_ranges.specs.Ranges.{left_by, number_range, number_record, ranges_by, metadata_after}
use Rattle.batch_ranges.proofs.Prefixes.{recorded_front, all_recorded_front}
use Rattle.batch_ranges.proofs.Puts.{patched_is_put, all_left}

-- how many bytes the blocks before the data blocks have
start_is : (n : ℕ) → n % 32 ≡ 0 → block_place (data_start n) ≡ 12288 + 384 * n
start_is n steps = omega arith

-- in bytes whose first m are the metadata
module _ (m : ℕ) (bytes : List ℕ) (log : List Rec) (n : ℕ) (inside : AreInside m log) (enough : 8 ≤ m) (within : m ≤ length bytes) where
  after : length (all_recorded bytes log) ≡ length bytes
  after = all_recorded_length log bytes

  pub put_is : put_on bytes (ranges_by (take m bytes) log n) ≡ recorded (all_recorded bytes log) (number_record n)
  put_is =
      put_on-append bytes (left_by (take m bytes) log) (number_range n ∷ [])
      ∙ ap (λ (z : List ℕ). put_on z (number_range n ∷ [])) (all_left m log bytes inside within)
      ∙ patched_is_put (little_bytes 8 n) (all_recorded bytes log) 0 (omega (arith, after))

  pub front_is : take m (recorded (all_recorded bytes log) (number_record n)) ≡ metadata_after (take m bytes) log n
  front_is =
      sym (recorded_front m (all_recorded bytes log) (number_record n) enough (omega (arith, after)))
      ∙ ap (λ (z : List ℕ). recorded z (number_record n)) (sym (all_recorded_front m log bytes inside within))

pub ranges_put_records : (v : Volume) (log : List Rec) (n : ℕ) → IsSized v → AreInside (length (metadata v)) log
    → (with_ranges v (ranges_by (metadata v) log n) ≡ numbered n (with_records v log)) × (metadata (numbered n (with_records v log)) ≡ metadata_after (metadata v) log n)
ranges_put_records v log n sized inside =
    let m : ℕ = block_place (data_start v.inodes) in
    let room : HasSpace v = has_space v sized in
    let place : m ≡ 12288 + 384 * v.inodes = start_is v.inodes room.steps in
    let within : m ≤ length v.bytes = omega (arith, place, room.long) in
    let long : length (metadata v) ≡ m = length-take m v.bytes ∙ omega (arith, within) in
    let lies : AreInside m log = subst (λ (z : ℕ). AreInside z log) long inside in
    let enough : 8 ≤ m = omega (arith, place) in
    let bytes = put_is m v.bytes log n lies enough within in
    ((λ i. record v { bytes = bytes i }), front_is m v.bytes log n lies enough within)
