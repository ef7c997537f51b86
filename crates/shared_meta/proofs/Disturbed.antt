-- A call at a spot that disturbs no record.
use Rattle.std.proofs.Common.{◌≡◌, ◌==◌, ◌||◌, ℕ, ◌+◌, ◌≤◌, Bool, true, false, not, max, min, List, length, get_or, refl, sym, subst, ◌∙◌, arith, inl, inr}
use Rattle.std.specs.List.{All, list_all}
use Rattle.std.proofs.lemmas.Bool.{ltb-false, not-true, not_from_false, eqb-true, eq-eqb, ne_eqb, or_cases, or_left, or_right, cases_eq}
use Rattle.std.proofs.lemmas.List.Elements.{All-append}
use Rattle.std.proofs.lemmas.List.Sums.{AllPass-from_list_all, list_all-from_AllPass}
use Rattle.ccfs_base.specs.declared.records.Rec.{Rec}
use Rattle.ccfs_base.specs.declared.records.Rec.TheVariants as recs
use Rattle.ccfs_base.specs.Places.{Range, IsInside, AreApart}
use Rattle.ccfs_base.specs.Records.{acts_at, AreFree}
use Rattle.ccfs_base.specs.Logs.{Call}
use Rattle.range_log.specs.Ranges.{share, is_range}
use Rattle.shared_meta.specs.declared.spots.Spot.{Spot}
use Rattle.shared_meta.specs.declared.spots.Spot.TheVariants as spots
use Rattle.shared_meta.specs.Area.{Area, MayLog}
use Rattle.shared_meta.specs.Spots.{ActsOn, IsSpotIn, acts_among, raises, is_other_bit, is_free_of, is_run, MayAct}
use Rattle.shared_meta.proofs.Free.{all_first, all_rest}
use Rattle.shared_meta.proofs.EachCall.{not_shared}

apart_forth : (off len at size : ℕ) → not (share off len at size) ≡ true → AreApart (Range off len) (Range at size)
apart_forth off len at size h x p q r s =
    let l : min (off + len) (at + size) ≤ max off at = ltb-false (max off at) (min (off + len) (at + size)) (not-true (share off len at size) h) in
    omega arith

apart_back : (off len at size : ℕ) → AreApart (Range off len) (Range at size) → not (share off len at size) ≡ true
apart_back off len at size h = not_from_false (share off len at size) (not_shared off len at size h (share off len at size) refl)

-- ---- what a range doesn't disturb

range_forth : (off : ℕ) (bytes : List ℕ) (rec : Rec) → not (acts_among off (length bytes) rec) ≡ true → AreFree (recs.Range off bytes) rec
range_forth off bytes (recs.Range at new) h = inl (apart_forth off (length bytes) at (length new) h)
range_forth off bytes (recs.Add at by) h = inl (apart_forth off (length bytes) at 8 h)
range_forth off bytes (recs.Bit at bit on) h = inl (λ p q. apart_forth off (length bytes) at 1 h at p q (omega arith) (omega arith))

range_back : (off : ℕ) (bytes : List ℕ) (rec : Rec) → AreFree (recs.Range off bytes) rec → not (acts_among off (length bytes) rec) ≡ true
range_back off bytes (recs.Range at new) (inl h) = apart_back off (length bytes) at (length new) h
range_back off bytes (recs.Add at by) (inl h) = apart_back off (length bytes) at 8 h
range_back off bytes (recs.Bit at bit on) (inl h) = apart_back off (length bytes) at 1 (λ x p q r s. h (omega arith) (omega arith))
range_back off bytes (recs.Range at new) (inr h) = absurd h
range_back off bytes (recs.Add at by) (inr h) = absurd h
range_back off bytes (recs.Bit at bit on) (inr h) = absurd h

-- ---- what a raise doesn't disturb

raise_forth : (off by : ℕ) (rec : Rec) → (raises off rec || not (acts_among off 8 rec)) ≡ true → AreFree (recs.Add off by) rec
raise_forth off by (recs.Range at new) h = inl (apart_forth off 8 at (length new) h)
raise_forth off by (recs.Add at more) h = elim (or_cases (off == at) (not (share off 8 at 8)) h) [ inl e ↦ inr (eqb-true off at e) | inr e ↦ inl (apart_forth off 8 at 8 e) ]
raise_forth off by (recs.Bit at bit on) h = inl (λ p q. apart_forth off 8 at 1 h at p q (omega arith) (omega arith))

raise_back : (off by : ℕ) (rec : Rec) → AreFree (recs.Add off by) rec → (raises off rec || not (acts_among off 8 rec)) ≡ true
raise_back off by (recs.Range at new) (inl h) = apart_back off 8 at (length new) h
raise_back off by (recs.Add at more) (inl h) = or_right (off == at) (not (share off 8 at 8)) (apart_back off 8 at 8 h)
raise_back off by (recs.Bit at bit on) (inl h) = apart_back off 8 at 1 (λ x p q r s. h (omega arith) (omega arith))
raise_back off by (recs.Range at new) (inr h) = absurd h
raise_back off by (recs.Add at more) (inr h) = or_left (off == at) (not (share off 8 at 8)) (eq-eqb off at h)
raise_back off by (recs.Bit at bit on) (inr h) = absurd h

-- ---- what a flip doesn't disturb

flip_forth : (off bit : ℕ) (on : Bool) (rec : Rec) → (is_other_bit bit rec || not (acts_among off 1 rec)) ≡ true → AreFree (recs.Bit off bit on) rec
flip_forth off bit on (recs.Range at new) h = inl (λ p q. apart_forth off 1 at (length new) h off (omega arith) (omega arith) p q)
flip_forth off bit on (recs.Add at by) h = inl (λ p q. apart_forth off 1 at 8 h off (omega arith) (omega arith) p q)
flip_forth off bit on (recs.Bit at other to) h =
    inl (λ p q. elim (or_cases (not (bit == other)) (not (share off 1 at 1)) h) [
      | inl e ↦ let t : true ≡ false = sym (eq-eqb bit other q) ∙ not-true (bit == other) e in absurd cc
      | inr e ↦ apart_forth off 1 at 1 e off (omega arith) (omega arith) (omega arith) (omega arith)
    ])

flip_back : (off bit : ℕ) (on : Bool) (rec : Rec) → AreFree (recs.Bit off bit on) rec → (is_other_bit bit rec || not (acts_among off 1 rec)) ≡ true
flip_back off bit on (recs.Range at new) (inl h) = apart_back off 1 at (length new) (λ x p q r s. h (omega arith) (omega arith))
flip_back off bit on (recs.Add at by) (inl h) = apart_back off 1 at 8 (λ x p q r s. h (omega arith) (omega arith))
flip_back off bit on (recs.Bit at other to) (inl h) = elim (cases_eq bit other) [
  | inl e ↦ or_right (not (bit == other)) (not (share off 1 at 1)) (apart_back off 1 at 1 (λ x p q r s. h (omega arith) e))
  | inr n ↦ or_left (not (bit == other)) (not (share off 1 at 1)) (not_from_false (bit == other) (ne_eqb bit other n))
]
flip_back off bit on (recs.Range at new) (inr h) = absurd h
flip_back off bit on (recs.Add at by) (inr h) = absurd h
flip_back off bit on (recs.Bit at other to) (inr h) = absurd h

-- ---- a record that acts on a spot

free_forth : (spot : Spot) (rec other : Rec) → ActsOn spot rec → is_free_of spot other ≡ true → AreFree rec other
free_forth (spots.Range off len) (recs.Range at bytes) other a h =
    range_forth at bytes other (subst (λ (x : ℕ). not (acts_among x (length bytes) other) ≡ true) a.0 (subst (λ (x : ℕ). not (acts_among off x other) ≡ true) a.1 h))
free_forth (spots.Range off len) (recs.Add at by) other a h = absurd a
free_forth (spots.Range off len) (recs.Bit at bit on) other a h = absurd a
free_forth (spots.Counter off) (recs.Range at bytes) other a h = absurd a
free_forth (spots.Counter off) (recs.Add at by) other a h = raise_forth at by other (subst (λ (x : ℕ). (raises x other || not (acts_among x 8 other)) ≡ true) a h)
free_forth (spots.Counter off) (recs.Bit at bit on) other a h = absurd a
free_forth (spots.Bit off bit) (recs.Range at bytes) other a h = absurd a
free_forth (spots.Bit off bit) (recs.Add at by) other a h = absurd a
free_forth (spots.Bit off bit) (recs.Bit at to on) other a h =
    flip_forth at to on other (subst (λ (x : ℕ). (is_other_bit to other || not (acts_among x 1 other)) ≡ true) a.0 (subst (λ (x : ℕ). (is_other_bit x other || not (acts_among off 1 other)) ≡ true) a.1 h))

free_back : (spot : Spot) (rec other : Rec) → ActsOn spot rec → AreFree rec other → is_free_of spot other ≡ true
free_back (spots.Range off len) (recs.Range at bytes) other a h =
    subst (λ (x : ℕ). not (acts_among off x other) ≡ true) (sym a.1) (subst (λ (x : ℕ). not (acts_among x (length bytes) other) ≡ true) (sym a.0) (range_back at bytes other h))
free_back (spots.Range off len) (recs.Add at by) other a h = absurd a
free_back (spots.Range off len) (recs.Bit at bit on) other a h = absurd a
free_back (spots.Counter off) (recs.Range at bytes) other a h = absurd a
free_back (spots.Counter off) (recs.Add at by) other a h = subst (λ (x : ℕ). (raises x other || not (acts_among x 8 other)) ≡ true) (sym a) (raise_back at by other h)
free_back (spots.Counter off) (recs.Bit at bit on) other a h = absurd a
free_back (spots.Bit off bit) (recs.Range at bytes) other a h = absurd a
free_back (spots.Bit off bit) (recs.Add at by) other a h = absurd a
free_back (spots.Bit off bit) (recs.Bit at to on) other a h =
    subst (λ (x : ℕ). (is_other_bit x other || not (acts_among off 1 other)) ≡ true) (sym a.1) (subst (λ (x : ℕ). (is_other_bit to other || not (acts_among x 1 other)) ≡ true) (sym a.0) (flip_back at to on other h))

inside_forth : (size : ℕ) (spot : Spot) (rec : Rec) → ActsOn spot rec → IsSpotIn size spot → IsInside size (acts_at rec)
inside_forth size (spots.Range off len) (recs.Range at bytes) a h = omega arith
inside_forth size (spots.Range off len) (recs.Add at by) a h = absurd a
inside_forth size (spots.Range off len) (recs.Bit at bit on) a h = absurd a
inside_forth size (spots.Counter off) (recs.Range at bytes) a h = absurd a
inside_forth size (spots.Counter off) (recs.Add at by) a h = omega arith
inside_forth size (spots.Counter off) (recs.Bit at bit on) a h = absurd a
inside_forth size (spots.Bit off bit) (recs.Range at bytes) a h = absurd a
inside_forth size (spots.Bit off bit) (recs.Add at by) a h = absurd a
inside_forth size (spots.Bit off bit) (recs.Bit at to on) a h = (omega arith, omega arith)

inside_back : (size : ℕ) (spot : Spot) (rec : Rec) → ActsOn spot rec → IsInside size (acts_at rec) → IsSpotIn size spot
inside_back size (spots.Range off len) (recs.Range at bytes) a h = omega arith
inside_back size (spots.Range off len) (recs.Add at by) a h = absurd a
inside_back size (spots.Range off len) (recs.Bit at bit on) a h = absurd a
inside_back size (spots.Counter off) (recs.Range at bytes) a h = absurd a
inside_back size (spots.Counter off) (recs.Add at by) a h = omega arith
inside_back size (spots.Counter off) (recs.Bit at bit on) a h = absurd a
inside_back size (spots.Bit off bit) (recs.Range at bytes) a h = absurd a
inside_back size (spots.Bit off bit) (recs.Add at by) a h = absurd a
inside_back size (spots.Bit off bit) (recs.Bit at to on) a h = (omega arith, omega arith)

run_is_range : (spot : Spot) (rec : Rec) → ActsOn spot rec → is_run spot ≡ is_range rec
run_is_range (spots.Range off len) (recs.Range at bytes) a = refl
run_is_range (spots.Range off len) (recs.Add at by) a = absurd a
run_is_range (spots.Range off len) (recs.Bit at bit on) a = absurd a
run_is_range (spots.Counter off) (recs.Range at bytes) a = absurd a
run_is_range (spots.Counter off) (recs.Add at by) a = refl
run_is_range (spots.Counter off) (recs.Bit at bit on) a = absurd a
run_is_range (spots.Bit off bit) (recs.Range at bytes) a = absurd a
run_is_range (spots.Bit off bit) (recs.Add at by) a = absurd a
run_is_range (spots.Bit off bit) (recs.Bit at to on) a = refl

-- ---- logs

all_forth : (spot : Spot) (rec : Rec) (log : List Rec) → ActsOn spot rec → list_all (is_free_of spot) log ≡ true → All (AreFree rec) log
all_forth spot rec log a h = λ k d l. free_forth spot rec (get_or log k d) a (AllPass-from_list_all (is_free_of spot) log h k d l)

all_back : (spot : Spot) (rec : Rec) (log : List Rec) → ActsOn spot rec → All (AreFree rec) log → list_all (is_free_of spot) log ≡ true
all_back spot rec log a h = list_all-from_AllPass (is_free_of spot) log (λ k d l. free_back spot rec (get_or log k d) a (h k d l))

-- a call may be made where one at its spot may
pub may_forth : (a : Area) (call : Call) (spot : Spot) → ActsOn spot call.rec → MayAct a call.stream spot → MayLog a call
may_forth a call spot on may = record {
  stream = may.stream;
  inside = inside_forth (length a.base) spot call.rec on may.inside;
  others = λ s n. All-append (AreFree call.rec) (a.ranges s) (a.deltas s) (all_forth spot call.rec (a.ranges s) on (may.free.ranges s n)) (all_forth spot call.rec (a.deltas s) on (may.free.deltas s n));
  own = λ e. all_forth spot call.rec (a.deltas call.stream) on (may.free.own (run_is_range spot call.rec on ∙ e));
}

pub may_back : (a : Area) (call : Call) (spot : Spot) → ActsOn spot call.rec → MayLog a call → MayAct a call.stream spot
may_back a call spot on may = record {
  stream = may.stream;
  inside = inside_back (length a.base) spot call.rec on may.inside;
  free = record {
    ranges = λ s n. all_back spot call.rec (a.ranges s) on (all_first (AreFree call.rec) (a.ranges s) (a.deltas s) (may.others s n));
    deltas = λ s n. all_back spot call.rec (a.deltas s) on (all_rest (AreFree call.rec) (a.ranges s) (a.deltas s) (may.others s n));
    own = λ e. all_back spot call.rec (a.deltas call.stream) on (may.own (sym (run_is_range spot call.rec on) ∙ e));
  };
}
