-- Records that are logged one after another, as far as a loop has come.
use Rattle.std.proofs.Common.{◌≡◌, ◌≢◌, ℕ, List, [], ◌∷◌, ◌++◌, append_assoc, append-nil, refl, sym, ap, ◌∙◌}
use Rattle.std.specs.Prelude.{not}
use Rattle.std.proofs.lemmas.List.Elements.{filter-append}
use Rattle.ccfs_base.specs.declared.records.Rec.{Rec}
use Rattle.ccfs_base.specs.declared.records.Rec.TheVariants as recs
use Rattle.record_logs.specs.Kept.{call_by}
use Rattle.delta_log.specs.Deltas.{is_delta}
use Rattle.delta_log.specs.Laws.{ranges_of, deltas_of}
use Rattle.shared_meta.specs.Area.{Area, AreAsBefore, IsLoggedIn}
use Rattle.front_core.specs.Logged.{AreLogged}

-- ---- nothing but the room changes

pub as_before : (a b c : Area) → AreAsBefore a b → AreAsBefore b c → AreAsBefore a c
as_before a b c p q = record {
  base = q.base ∙ p.base;
  ranges = λ s. q.ranges s ∙ p.ranges s;
  deltas = λ s. q.deltas s ∙ p.deltas s;
  places = λ s. q.places s ∙ p.places s;
}

-- ---- the records so far

-- A stream logged records, whatever the room is.
pub record AreLoggedSoFar (old : Area) (s : ℕ) (logged : List Rec) (new : Area) : Type 0 where
  pub base : new.base ≡ old.base
  pub ranges : new.ranges s ≡ old.ranges s ++ ranges_of logged
  pub deltas : new.deltas s ≡ old.deltas s ++ deltas_of logged
  pub other_ranges : (r : ℕ) → r ≢ s → new.ranges r ≡ old.ranges r
  pub other_deltas : (r : ℕ) → r ≢ s → new.deltas r ≡ old.deltas r
  pub other_places : (r : ℕ) → r ≢ s → new.places r ≡ old.places r

pub none_logged : (a : Area) (s : ℕ) → AreLoggedSoFar a s [] a
none_logged a s = record {
  base = refl;
  ranges = sym (append-nil (a.ranges s));
  deltas = sym (append-nil (a.deltas s));
  other_ranges = λ r n. refl;
  other_deltas = λ r n. refl;
  other_places = λ r n. refl;
}

-- one more record
pub logged_more : (old mid new : Area) (s : ℕ) (logged : List Rec) (rec : Rec) → AreLoggedSoFar old s logged mid → IsLoggedIn mid (call_by s rec) new
    → AreLoggedSoFar old s (logged ++ rec ∷ []) new
logged_more old mid new s logged (recs.Range off bytes) far is =
    let rec = recs.Range off bytes in
    record {
      base = is.base ∙ far.base;
      ranges = is.ranges.own ∙ ap (λ z. z ++ rec ∷ []) far.ranges ∙ append_assoc (old.ranges s) (ranges_of logged) (rec ∷ [])
          ∙ ap (λ z. old.ranges s ++ z) (sym (filter-append (λ r. not (is_delta r)) logged (rec ∷ [])));
      deltas = is.deltas s ∙ far.deltas ∙ ap (λ z. old.deltas s ++ z) (sym (filter-append is_delta logged (rec ∷ []) ∙ append-nil (deltas_of logged)));
      other_ranges = λ r n. is.ranges.others r n ∙ far.other_ranges r n;
      other_deltas = λ r n. is.deltas r ∙ far.other_deltas r n;
      other_places = λ r n. is.places.others r n ∙ far.other_places r n;
    }
logged_more old mid new s logged (recs.Add off by) far is =
    let rec = recs.Add off by in
    record {
      base = is.base ∙ far.base;
      ranges = is.ranges s ∙ far.ranges ∙ ap (λ z. old.ranges s ++ z) (sym (filter-append (λ r. not (is_delta r)) logged (rec ∷ []) ∙ append-nil (ranges_of logged)));
      deltas = is.deltas.own ∙ ap (λ z. z ++ rec ∷ []) far.deltas ∙ append_assoc (old.deltas s) (deltas_of logged) (rec ∷ [])
          ∙ ap (λ z. old.deltas s ++ z) (sym (filter-append is_delta logged (rec ∷ [])));
      other_ranges = λ r n. is.ranges r ∙ far.other_ranges r n;
      other_deltas = λ r n. is.deltas.others r n ∙ far.other_deltas r n;
      other_places = λ r n. is.places.others r n ∙ far.other_places r n;
    }
logged_more old mid new s logged (recs.Bit off bit on) far is =
    let rec = recs.Bit off bit on in
    record {
      base = is.base ∙ far.base;
      ranges = is.ranges s ∙ far.ranges ∙ ap (λ z. old.ranges s ++ z) (sym (filter-append (λ r. not (is_delta r)) logged (rec ∷ []) ∙ append-nil (ranges_of logged)));
      deltas = is.deltas.own ∙ ap (λ z. z ++ rec ∷ []) far.deltas ∙ append_assoc (old.deltas s) (deltas_of logged) (rec ∷ [])
          ∙ ap (λ z. old.deltas s ++ z) (sym (filter-append is_delta logged (rec ∷ [])));
      other_ranges = λ r n. is.ranges r ∙ far.other_ranges r n;
      other_deltas = λ r n. is.deltas.others r n ∙ far.other_deltas r n;
      other_places = λ r n. is.places.others r n ∙ far.other_places r n;
    }

-- all of them
pub all_logged : (old new : Area) (s : ℕ) (logged : List Rec) → AreLoggedSoFar old s logged new → new.room ≡ [] → AreLogged old s logged new
all_logged old new s logged far none = record {
  base = far.base;
  ranges = far.ranges;
  deltas = far.deltas;
  other_ranges = far.other_ranges;
  other_deltas = far.other_deltas;
  other_places = far.other_places;
  room = none;
}
