-- What records leave at their places, put on bytes as ranges, makes of them what the records make of them.
use Rattle.std.proofs.Common.{◌≡◌, ◌==◌, ℕ, zero, suc, ◌+◌, ◌≤◌, ◌<◌, List, [], ◌∷◌, ◌++◌, length, set, get_or, take, refl, sym, ap, ◌∙◌, arith, add-one, append_assoc}
use Rattle.std.proofs.lemmas.List.{take_more}
use Rattle.std.proofs.lemmas.List.Edits.{sets, sets-eq}
use Rattle.disk_model.specs.Bytes.{patched}
use Rattle.ccfs_base.specs.declared.records.Rec.{Rec}
use Rattle.ccfs_base.specs.declared.records.Rec.TheVariants as recs
use Rattle.ccfs_base.specs.Places.{Bit, part, put, with_bit, read, IsInside}
use Rattle.ccfs_base.specs.Records.{acts_at, raised, leaves, recorded, all_recorded, AreInside}
use Rattle.ccfs_base.proofs.Put.{length-put, part_put}
use Rattle.delta_log.proofs.Records.{recorded_length, all_recorded-append}
use Rattle.atomic_volume.specs.Opening.{put_on}
use Rattle.gate_journal.specs.declared.batches.Range as of_batch
use Rattle.batch_ranges.specs.Ranges.{off_of, size_of, range_at, left_by}
use Rattle.batch_ranges.proofs.Prefixes.{part_front, recorded_front}

put_sets : (new bytes : List ℕ) (from : ℕ) → put bytes from new ≡ sets bytes from new
put_sets [] bytes from = refl
put_sets (b ∷ new) bytes from = put_sets new (set bytes from b) (from + 1) ∙ rw add-one refl

pub patched_is_put : (new bytes : List ℕ) (from : ℕ) → from + length new ≤ length bytes → patched bytes from new ≡ put bytes from new
patched_is_put new bytes from h = sym (put_sets new bytes from ∙ sets-eq new bytes from h)

-- ---- one record

-- what stands in the range of a put, in the first bytes, is put there
part_put_front : (off size m : ℕ) (new bytes : List ℕ) → size ≡ length new → off + size ≤ m → m ≤ length bytes
    → patched bytes off (part off size (take m (put bytes off new))) ≡ put bytes off new
part_put_front off size m new bytes e h l =
    ap (patched bytes off) (part_front off size m (put bytes off new) h (omega (arith, length-put new bytes off)) ∙ part_put new bytes off size e (omega arith))
    ∙ patched_is_put new bytes off (omega arith)

-- a record lies where its range lies
pub inside_line : (size : ℕ) (rec : Rec) → IsInside size (acts_at rec) → off_of rec + size_of rec ≤ size
inside_line size (recs.Range off bytes) h = h
inside_line size (recs.Add off by) h = h
inside_line size (recs.Bit off bit on) h = line off size h.0
  where
    line : (off size : ℕ) → off < size → off + 1 ≤ size
    line off size h = omega arith

left_put : (m : ℕ) (bytes : List ℕ) (rec : Rec) → IsInside m (acts_at rec) → m ≤ length bytes
    → patched bytes (off_of rec) (part (off_of rec) (size_of rec) (take m (recorded bytes rec))) ≡ recorded bytes rec
left_put m bytes (recs.Range off new) h l = part_put_front off (length new) m new bytes refl h l
left_put m bytes (recs.Add off by) h l = part_put_front off 8 m (raised (part off 8 bytes) by) bytes refl h l
left_put m bytes (recs.Bit off bit on) h l =
    part_put_front off 1 m (with_bit (get_or bytes off 0) bit (get_or (leaves (recs.Bit off bit on) (read (Bit off bit) bytes)) 0 0 == 1) ∷ []) bytes refl (inside_line m (recs.Bit off bit on) h) l

-- ---- all records

pub all_left : (m : ℕ) (log : List Rec) (bytes : List ℕ) → AreInside m log → m ≤ length bytes → put_on bytes (left_by (take m bytes) log) ≡ all_recorded bytes log
all_left m [] bytes h l = refl
all_left m (rec ∷ log) bytes h l =
    ap (λ (z : List ℕ). put_on (patched bytes (off_of rec) (part (off_of rec) (size_of rec) z)) (left_by z log)) (recorded_front m bytes rec h.0 l)
    ∙ ap (λ (z : List ℕ). put_on z (left_by (take m (recorded bytes rec)) log)) (left_put m bytes rec h.0 l)
    ∙ all_left m log (recorded bytes rec) h.1 (omega (arith, recorded_length bytes rec))

-- ---- one record more

pub left_by-append : (log other : List Rec) (bytes : List ℕ) → left_by bytes (log ++ other) ≡ left_by bytes log ++ left_by (all_recorded bytes log) other
left_by-append [] other bytes = refl
left_by-append (rec ∷ log) other bytes = ap (λ (z : List of_batch.Range). range_at (recorded bytes rec) rec ∷ z) (left_by-append log other (recorded bytes rec))

pub one_more_recorded : (bytes : List ℕ) (log : List Rec) (i : ℕ) (d : Rec) → i < length log → recorded (all_recorded bytes (take i log)) (get_or log i d) ≡ all_recorded bytes (take (i + 1) log)
one_more_recorded bytes log i d h = sym (ap (all_recorded bytes) (take_more log i d h) ∙ all_recorded-append (take i log) (get_or log i d ∷ []) bytes)

pub one_more_left : (bytes : List ℕ) (log : List Rec) (i : ℕ) (d : Rec) → i < length log
    → left_by bytes (take i log) ++ range_at (recorded (all_recorded bytes (take i log)) (get_or log i d)) (get_or log i d) ∷ [] ≡ left_by bytes (take (i + 1) log)
one_more_left bytes log i d h = sym (ap (left_by bytes) (take_more log i d h) ∙ left_by-append (take i log) (get_or log i d ∷ []) bytes)

-- and behind others
pub one_more_behind : (bytes : List ℕ) (log : List Rec) (i : ℕ) (d : Rec) (first : List of_batch.Range) → i < length log
    → (first ++ left_by bytes (take i log)) ++ range_at (recorded (all_recorded bytes (take i log)) (get_or log i d)) (get_or log i d) ∷ [] ≡ first ++ left_by bytes (take (i + 1) log)
one_more_behind bytes log i d first h =
    append_assoc first (left_by bytes (take i log)) (range_at (recorded (all_recorded bytes (take i log)) (get_or log i d)) (get_or log i d) ∷ [])
    ∙ ap (λ (z : List of_batch.Range). first ++ z) (one_more_left bytes log i d h)

pub inside_at : (size : ℕ) (log : List Rec) (i : ℕ) (d : Rec) → AreInside size log → i < length log → IsInside size (acts_at (get_or log i d))
inside_at size [] i d h l = absurd (omega arith)
inside_at size (rec ∷ rest) zero d h l = h.0
inside_at size (rec ∷ rest) (suc i) d h l = inside_at size rest i d h.1 (omega arith)
