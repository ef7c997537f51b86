-- The ranges of a log, and then its raises and flips.
use Rattle.std.proofs.Common.{◌≡◌, ℕ, List, [], ◌∷◌, ◌++◌, length, refl, sym, ap, ◌∙◌}
use Rattle.std.specs.List.{All}
use Rattle.ccfs_base.specs.declared.records.Rec.{Rec}
use Rattle.ccfs_base.specs.declared.records.Rec.TheVariants as recs
use Rattle.ccfs_base.specs.Places.{IsInside}
use Rattle.ccfs_base.specs.Records.{acts_at, recorded, all_recorded, AreInside, AreFree}
use Rattle.delta_log.specs.Laws.{deltas_of, ranges_of, IsRangeFirst, AreAlike}
use Rattle.delta_log.proofs.Records.{recorded_length, all_recorded-append, one_past}

pub ranges_inside : (size : ℕ) (log : List Rec) → AreInside size log → AreInside size (ranges_of log)
ranges_inside size [] h = tt
ranges_inside size (recs.Range off bytes ∷ log) h = (h.0, ranges_inside size log h.1)
ranges_inside size (recs.Add off by ∷ log) h = ranges_inside size log h.1
ranges_inside size (recs.Bit off bit on ∷ log) h = ranges_inside size log h.1

-- a record past ranges that it doesn't disturb
delta_back : (bytes : List ℕ) (rec : Rec) (ranges deltas : List Rec) → IsInside (length bytes) (acts_at rec) → AreInside (length bytes) ranges → All (AreFree rec) ranges
    → all_recorded (recorded bytes rec) (ranges ++ deltas) ≡ all_recorded bytes (ranges ++ rec ∷ deltas)
delta_back bytes rec ranges deltas i j f =
    all_recorded-append ranges deltas (recorded bytes rec)
    ∙ ap (λ (z : List ℕ). all_recorded z deltas) (one_past ranges bytes rec i j f)
    ∙ sym (all_recorded-append ranges (rec ∷ deltas) bytes)

sorted : (log : List Rec) (bytes : List ℕ) → AreInside (length bytes) log → IsRangeFirst log
    → all_recorded bytes log ≡ all_recorded bytes (ranges_of log ++ deltas_of log)
sorted [] bytes h d = refl
sorted (recs.Range off new ∷ log) bytes h d = sorted log (recorded bytes (recs.Range off new)) (rw (recorded_length bytes (recs.Range off new)) h.1) d.1
sorted (recs.Add off by ∷ log) bytes h d =
    sorted log (recorded bytes (recs.Add off by)) (rw (recorded_length bytes (recs.Add off by)) h.1) d.1
    ∙ delta_back bytes (recs.Add off by) (ranges_of log) (deltas_of log) h.0 (ranges_inside (length bytes) log h.1) (d.0 refl)
sorted (recs.Bit off bit on ∷ log) bytes h d =
    sorted log (recorded bytes (recs.Bit off bit on)) (rw (recorded_length bytes (recs.Bit off bit on)) h.1) d.1
    ∙ delta_back bytes (recs.Bit off bit on) (ranges_of log) (deltas_of log) h.0 (ranges_inside (length bytes) log h.1) (d.0 refl)

pub sorted_alike : (size : ℕ) (log : List Rec) → AreInside size log → IsRangeFirst log → AreAlike size log (ranges_of log ++ deltas_of log)
sorted_alike size log h d = λ bytes e. sorted log bytes (rw e h) d
