-- The rooms of two logs in one order.
use Rattle.std.proofs.Common.{◌≡◌, true, List, [], ◌∷◌, ◌++◌, refl, sym, ap, subst, ◌∙◌}
use Rattle.std.specs.List.{remove}
use Rattle.ccfs_base.specs.declared.records.Rec.{Rec}
use Rattle.ccfs_base.specs.declared.records.Rec.TheVariants as recs
use Rattle.ccfs_base.specs.Logs.{Call}
use Rattle.ccfs_base.specs.Rooms.{IsFirst, IsUsed}
use Rattle.range_log.specs.Ranges.{is_range}
use Rattle.delta_log.specs.Deltas.{is_delta}
use Rattle.shared_meta.specs.declared.logs.Kind.{Kind}
use Rattle.shared_meta.specs.declared.logs.Kind.TheVariants as kinds
use Rattle.shared_meta.specs.Merged.{merged, AreMerged}

-- no record is of both kinds
one_kind : (rec : Rec) → is_range rec ≡ true → is_delta rec ≡ true → ⊥
one_kind (recs.Range off bytes) r d = cc
one_kind (recs.Add off by) r d = cc
one_kind (recs.Bit off bit on) r d = cc

-- the first call of all is the first of its log
pub range_first : (order : List Kind) (ranges deltas : List Call) (call : Call) → is_range call.rec ≡ true → AreMerged order ranges deltas → IsFirst call (merged order ranges deltas)
    → IsFirst kinds.Range order × IsFirst call ranges
range_first [] ranges deltas call k m f = absurd cc
range_first (kinds.Range ∷ order) [] deltas call k m f = absurd m
range_first (kinds.Range ∷ order) (first ∷ ranges) deltas call k m f =
    let e : first ≡ call = cc (f.1) in
    ((order, refl), (ranges, ap (λ (x : Call). x ∷ ranges) e))
range_first (kinds.Delta ∷ order) ranges [] call k m f = absurd m
range_first (kinds.Delta ∷ order) ranges (first ∷ deltas) call k m f =
    let e : first ≡ call = cc (f.1) in
    absurd (one_kind call.rec k (subst (λ (x : Call). is_delta x.rec ≡ true) e m.0))

pub delta_first : (order : List Kind) (ranges deltas : List Call) (call : Call) → is_delta call.rec ≡ true → AreMerged order ranges deltas → IsFirst call (merged order ranges deltas)
    → IsFirst kinds.Delta order × IsFirst call deltas
delta_first [] ranges deltas call k m f = absurd cc
delta_first (kinds.Range ∷ order) [] deltas call k m f = absurd m
delta_first (kinds.Range ∷ order) (first ∷ ranges) deltas call k m f =
    let e : first ≡ call = cc (f.1) in
    absurd (one_kind call.rec (subst (λ (x : Call). is_range x.rec ≡ true) e m.0) k)
delta_first (kinds.Delta ∷ order) ranges [] call k m f = absurd m
delta_first (kinds.Delta ∷ order) ranges (first ∷ deltas) call k m f =
    let e : first ≡ call = cc (f.1) in
    ((order, refl), (deltas, ap (λ (x : Call). x ∷ deltas) e))

-- What a call left of the rooms.
pub record AreUsed (call : Call) (order : List Kind) (ranges deltas : List Call) (left : List Kind) (ranges' deltas' : List Call) : Type 0 where
  pub merge : AreMerged left ranges' deltas'
  pub used : IsUsed call (merged order ranges deltas) (merged left ranges' deltas')

-- the first call of all is used in its log
pub range_used : (order : List Kind) (ranges deltas left : List Call) (call : Call) → AreMerged order ranges deltas → IsFirst kinds.Range order → IsFirst call ranges
    → IsUsed call ranges left → AreUsed call order ranges deltas (remove order 0) left deltas
range_used [] ranges deltas left call m o f u = absurd cc
range_used (kinds.Delta ∷ order) ranges deltas left call m o f u = absurd cc
range_used (kinds.Range ∷ order) [] deltas left call m o f u = absurd m
range_used (kinds.Range ∷ order) (first ∷ ranges) deltas left call m o f u =
    let e : first ≡ call = cc (f.1) in
    let l : left ≡ ranges = u.first ranges (ap (λ (x : Call). x ∷ ranges) e) in
    record {
      merge = subst (λ (x : List Call). AreMerged order x deltas) (sym l) m.1;
      used = record {
        first = λ rest h. ap (λ (x : List Call). merged order x deltas) l ∙ cc;
        other = λ n. absurd (n (merged order ranges deltas, ap (λ (x : Call). x ∷ merged order ranges deltas) e));
      };
    }

pub delta_used : (order : List Kind) (ranges deltas left : List Call) (call : Call) → AreMerged order ranges deltas → IsFirst kinds.Delta order → IsFirst call deltas
    → IsUsed call deltas left → AreUsed call order ranges deltas (remove order 0) ranges left
delta_used [] ranges deltas left call m o f u = absurd cc
delta_used (kinds.Range ∷ order) ranges deltas left call m o f u = absurd cc
delta_used (kinds.Delta ∷ order) ranges [] left call m o f u = absurd m
delta_used (kinds.Delta ∷ order) ranges (first ∷ deltas) left call m o f u =
    let e : first ≡ call = cc (f.1) in
    let l : left ≡ deltas = u.first deltas (ap (λ (x : Call). x ∷ deltas) e) in
    record {
      merge = subst (λ (x : List Call). AreMerged order ranges x) (sym l) m.1;
      used = record {
        first = λ rest h. ap (λ (x : List Call). merged order ranges x) l ∙ cc;
        other = λ n. absurd (n (merged order ranges deltas, ap (λ (x : Call). x ∷ merged order ranges deltas) e));
      };
    }

-- a call that isn't the first of all leaves no room
pub range_lost : (order : List Kind) (ranges deltas : List Call) (call : Call) → is_range call.rec ≡ true → AreMerged order ranges deltas
    → (IsFirst kinds.Range order → IsFirst call ranges → ⊥) → IsUsed call (merged order ranges deltas) []
range_lost order ranges deltas call k m n = record {
  first = λ rest h. let f = range_first order ranges deltas call k m (rest, h) in absurd (n f.0 f.1);
  other = λ x. refl;
}

pub delta_lost : (order : List Kind) (ranges deltas : List Call) (call : Call) → is_delta call.rec ≡ true → AreMerged order ranges deltas
    → (IsFirst kinds.Delta order → IsFirst call deltas → ⊥) → IsUsed call (merged order ranges deltas) []
delta_lost order ranges deltas call k m n = record {
  first = λ rest h. let f = delta_first order ranges deltas call k m (rest, h) in absurd (n f.0 f.1);
  other = λ x. refl;
}

-- one call more
pub range_more : (order : List Kind) (ranges deltas : List Call) (call : Call) → is_range call.rec ≡ true → AreMerged order ranges deltas
    → AreMerged (order ++ kinds.Range ∷ []) (ranges ++ call ∷ []) deltas × (merged (order ++ kinds.Range ∷ []) (ranges ++ call ∷ []) deltas ≡ merged order ranges deltas ++ call ∷ [])
range_more [] [] [] call k m = ((k, (refl, refl)), refl)
range_more [] (first ∷ ranges) deltas call k m = absurd (cc (m.0))
range_more [] [] (first ∷ deltas) call k m = absurd (cc (m.1))
range_more (kinds.Range ∷ order) [] deltas call k m = absurd m
range_more (kinds.Range ∷ order) (first ∷ ranges) deltas call k m =
    let h = range_more order ranges deltas call k m.1 in ((m.0, h.0), ap (λ (x : List Call). first ∷ x) h.1)
range_more (kinds.Delta ∷ order) ranges [] call k m = absurd m
range_more (kinds.Delta ∷ order) ranges (first ∷ deltas) call k m =
    let h = range_more order ranges deltas call k m.1 in ((m.0, h.0), ap (λ (x : List Call). first ∷ x) h.1)

pub delta_more : (order : List Kind) (ranges deltas : List Call) (call : Call) → is_delta call.rec ≡ true → AreMerged order ranges deltas
    → AreMerged (order ++ kinds.Delta ∷ []) ranges (deltas ++ call ∷ []) × (merged (order ++ kinds.Delta ∷ []) ranges (deltas ++ call ∷ []) ≡ merged order ranges deltas ++ call ∷ [])
delta_more [] [] [] call k m = ((k, (refl, refl)), refl)
delta_more [] (first ∷ ranges) deltas call k m = absurd (cc (m.0))
delta_more [] [] (first ∷ deltas) call k m = absurd (cc (m.1))
delta_more (kinds.Range ∷ order) [] deltas call k m = absurd m
delta_more (kinds.Range ∷ order) (first ∷ ranges) deltas call k m =
    let h = delta_more order ranges deltas call k m.1 in ((m.0, h.0), ap (λ (x : List Call). first ∷ x) h.1)
delta_more (kinds.Delta ∷ order) ranges [] call k m = absurd m
delta_more (kinds.Delta ∷ order) ranges (first ∷ deltas) call k m =
    let h = delta_more order ranges deltas call k m.1 in ((m.0, h.0), ap (λ (x : List Call). first ∷ x) h.1)
