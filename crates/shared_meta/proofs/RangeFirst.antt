-- A log whose ranges may go first, with one record more.
use Rattle.std.proofs.Common.{◌≡◌, true, List, [], ◌∷◌, ◌++◌, not, refl, sym, subst}
use Rattle.std.specs.List.{All}
use Rattle.std.proofs.lemmas.List.Elements.{All-nil, All-cons, All-head, All-tail, All-append, filter-append}
use Rattle.ccfs_base.specs.declared.records.Rec.{Rec}
use Rattle.ccfs_base.specs.declared.records.Rec.TheVariants as recs
use Rattle.ccfs_base.specs.Records.{AreFree}
use Rattle.range_log.specs.Ranges.{is_range}
use Rattle.delta_log.specs.Deltas.{is_delta}
use Rattle.delta_log.specs.Laws.{deltas_of, ranges_of, IsRangeFirst}
use Rattle.shared_meta.proofs.Free.{free_sym}

-- a raise or a flip that is free of the ranges behind it is free of one more
one_more : (first rec : Rec) (rest : List Rec) → (is_range rec ≡ true → AreFree rec first) → All (AreFree first) (ranges_of rest) → All (AreFree first) (ranges_of (rest ++ rec ∷ []))
one_more first (recs.Range off bytes) rest f h =
    subst (All (AreFree first)) (sym (filter-append (λ some. not (is_delta some)) rest (recs.Range off bytes ∷ [])))
    (All-append (AreFree first) (ranges_of rest) (recs.Range off bytes ∷ []) h
    (All-cons (AreFree first) (recs.Range off bytes) [] (free_sym (recs.Range off bytes) first (f refl)) (All-nil (AreFree first))))
one_more first (recs.Add off by) rest f h =
    subst (All (AreFree first)) (sym (filter-append (λ some. not (is_delta some)) rest (recs.Add off by ∷ []))) (All-append (AreFree first) (ranges_of rest) [] h (All-nil (AreFree first)))
one_more first (recs.Bit off bit on) rest f h =
    subst (All (AreFree first)) (sym (filter-append (λ some. not (is_delta some)) rest (recs.Bit off bit on ∷ []))) (All-append (AreFree first) (ranges_of rest) [] h (All-nil (AreFree first)))

pub range_first_grows : (log : List Rec) (rec : Rec) → IsRangeFirst log → (is_range rec ≡ true → All (AreFree rec) (deltas_of log)) → IsRangeFirst (log ++ rec ∷ [])
range_first_grows [] rec h f = ((λ e. All-nil (AreFree rec)), tt)
range_first_grows (recs.Range off bytes ∷ rest) rec h f = ((λ e. one_more (recs.Range off bytes) rec rest (absurd cc) (h.0 e)), range_first_grows rest rec h.1 f)
range_first_grows (recs.Add off by ∷ rest) rec h f = (
  (λ e. one_more (recs.Add off by) rec rest (λ r. All-head (AreFree rec) (recs.Add off by) (deltas_of rest) (f r)) (h.0 e)),
  range_first_grows rest rec h.1 (λ r. All-tail (AreFree rec) (recs.Add off by) (deltas_of rest) (f r)),
)
range_first_grows (recs.Bit off bit on ∷ rest) rec h f = (
  (λ e. one_more (recs.Bit off bit on) rec rest (λ r. All-head (AreFree rec) (recs.Bit off bit on) (deltas_of rest) (f r)) (h.0 e)),
  range_first_grows rest rec h.1 (λ r. All-tail (AreFree rec) (recs.Bit off bit on) (deltas_of rest) (f r)),
)
