-- What records leave at their places stands in the volume, and how many bytes it has in a batch.
use Rattle.std.proofs.Common.{◌≡◌, ℕ, ◌+◌, ◌≤◌, List, [], ◌∷◌, length, refl, ◌∙◌, arith, length-append}
use Rattle.std.specs.List.{All, sum_by}
use Rattle.std.proofs.lemmas.List.Elements.{All-nil, All-cons}
use Rattle.std.proofs.lemmas.List.Sums.{sum_by-cons}
use Rattle.ccfs_base.specs.declared.records.Rec.{Rec}
use Rattle.ccfs_base.specs.Places.{part}
use Rattle.ccfs_base.specs.Records.{recorded, AreInside}
use Rattle.ccfs_base.proofs.Put.{length-part}
use Rattle.delta_log.proofs.Records.{recorded_length}
use Rattle.gate_journal.specs.declared.batches.Range.{Range}
use Rattle.gate_journal.specs.Batches.{record_bytes, records_bytes, Stands}
use Rattle.gate_journal.proofs.Sizes.{record_length}
use Rattle.batch_ranges.specs.Ranges.{off_of, size_of, range_at, left_by, AreSome}
use Rattle.batch_ranges.proofs.Puts.{inside_line}

range_long : (bytes : List ℕ) (rec : Rec) → off_of rec + size_of rec ≤ length bytes → length (part (off_of rec) (size_of rec) (recorded bytes rec)) ≡ size_of rec
range_long bytes rec h = length-part (off_of rec) (size_of rec) (recorded bytes rec) (omega (arith, recorded_length bytes rec))

pub left_stand : (size : ℕ) (log : List Rec) (bytes : List ℕ) → AreInside (length bytes) log → AreSome log → length bytes ≤ size → All (Stands size) (left_by bytes log)
left_stand size [] bytes h s l = All-nil (Stands size)
left_stand size (rec ∷ log) bytes h s l =
    let line = inside_line (length bytes) rec h.0 in
    let long = range_long bytes rec line in
    All-cons (Stands size) (range_at (recorded bytes rec) rec) (left_by (recorded bytes rec) log)
    (record { some = omega (arith, long, s.0); inside = omega (arith, long, line) })
    (left_stand size log (recorded bytes rec) (rw (recorded_length bytes rec) h.1) s.1 (omega (arith, recorded_length bytes rec)))

pub left_weigh : (log : List Rec) (bytes : List ℕ) → AreInside (length bytes) log → length (records_bytes (left_by bytes log)) ≡ sum_by (λ rec. 12 + size_of rec) log
left_weigh [] bytes h = refl
left_weigh (rec ∷ log) bytes h =
    let first : Range = range_at (recorded bytes rec) rec in
    let rest : List Range = left_by (recorded bytes rec) log in
    let long = range_long bytes rec (inside_line (length bytes) rec h.0) in
    length-append (record_bytes first) (records_bytes rest)
    ∙ omega (arith, record_length first, long, left_weigh log (recorded bytes rec) (rw (recorded_length bytes rec) h.1), sum_by-cons (λ rec. 12 + size_of rec) rec log)
