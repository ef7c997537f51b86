-- The ranges of a batch: those of its records and the one of its number.
use Rattle.std.proofs.Common.{◌≡◌, ℕ, ◌+◌, ◌≤◌, List, [], ◌∷◌, ◌++◌, length, refl, ap, ◌∙◌, subst, sym, arith, length-append}
use Rattle.std.specs.List.{All}
use Rattle.std.proofs.lemmas.List.Concat.{flat_map-append}
use Rattle.std.proofs.lemmas.List.Elements.{All-nil, All-cons, All-append}
use Rattle.byteorder.specs.Endian.{little_bytes}
use Rattle.ccfs_base.specs.declared.records.Rec.{Rec}
use Rattle.ccfs_base.specs.Records.{recorded, all_recorded, AreInside}
use Rattle.ccfs_base.proofs.Put.{part_put}
use Rattle.delta_log.proofs.Records.{all_recorded_length}
use Rattle.gate_journal.specs.declared.batches.Batch.{Batch}
use Rattle.gate_journal.specs.declared.batches.Range.{Range}
use Rattle.gate_journal.specs.Batches.{record_bytes, records_bytes, batch_bytes, Stands}
use Rattle.batch_ranges.specs.Ranges.{range_at, left_by, number_range, number_record, ranges_by, batch_size, AreSome}
use Rattle.batch_ranges.proofs.Weights.{left_stand, left_weigh}

-- the record of the number leaves its bytes at the front
number_left : (bytes : List ℕ) (n : ℕ) → 8 ≤ length bytes → range_at (recorded bytes (number_record n)) (number_record n) ≡ number_range n
number_left bytes n long = λ i. record { off = 0; bytes = part_put (little_bytes 8 n) bytes 0 8 refl long i }

-- what the record of the number leaves, put last of what the records left
pub ranges_batched : (bytes : List ℕ) (log : List Rec) (n : ℕ) (left : List Range) (last : Rec) (new : List ℕ) → 8 ≤ length bytes → left ≡ left_by bytes log → last ≡ number_record n
    → new ≡ recorded (all_recorded bytes log) last → left ++ range_at new last ∷ [] ≡ ranges_by bytes log n
ranges_batched bytes log n left last new enough is spelled put =
    let long = all_recorded_length log bytes in
    (λ i. is i ++ range_at new last ∷ [])
    ∙ ap (λ (z : List ℕ). left_by bytes log ++ range_at z last ∷ []) put
    ∙ ap (λ (z : Rec). left_by bytes log ++ range_at (recorded (all_recorded bytes log) z) z ∷ []) spelled
    ∙ ap (λ (z : Range). left_by bytes log ++ z ∷ []) (number_left (all_recorded bytes log) n (omega (arith, enough, long)))

pub batched_size : (b : Batch) (bytes : List ℕ) (log : List Rec) (n : ℕ) → AreInside (length bytes) log → b.ranges ≡ ranges_by bytes log n → length (batch_bytes b) ≡ batch_size log
batched_size b bytes log n inside is =
    let long : length (records_bytes b.ranges) ≡ length (records_bytes (left_by bytes log)) + length (records_bytes (number_range n ∷ [])) =
    ap (λ (z : List Range). length (records_bytes z)) is ∙ ap length (flat_map-append record_bytes (left_by bytes log) (number_range n ∷ []))
    ∙ length-append (records_bytes (left_by bytes log)) (records_bytes (number_range n ∷ [])) in
    omega (arith, long, left_weigh log bytes inside)

pub batched_stand : (ranges : List Range) (bytes : List ℕ) (log : List Rec) (n size : ℕ) → AreInside (length bytes) log → AreSome log → 8 ≤ length bytes → length bytes ≤ size
    → ranges ≡ ranges_by bytes log n → All (Stands size) ranges
batched_stand ranges bytes log n size inside some enough fits is =
    subst (All (Stands size)) (sym is)
    (All-append (Stands size) (left_by bytes log) (number_range n ∷ []) (left_stand size log bytes inside some fits)
    (All-cons (Stands size) (number_range n) [] (record { some = omega arith; inside = omega (arith, enough, fits) }) (All-nil (Stands size))))
