-- Logs stay apart when a clear range is put, and when a log is taken.
use Rattle.std.proofs.Common.{◌≡◌, ◌≢◌, ℕ, ◌<◌, ◌≤◌, inl, inr, Bool, true, not, List, [], ◌∷◌, ◌++◌, length, refl, sym, ap, subst, ◌∙◌}
use Rattle.std.specs.List.{list_all}
use Rattle.std.proofs.lemmas.Bool.{and_parts, and_from, cases_eq, cases_lt}
use Rattle.std.proofs.lemmas.List.Folds.{list_all-append}
use Rattle.ccfs_base.specs.declared.records.Rec.{Rec}
use Rattle.ccfs_base.specs.declared.records.Rec.TheVariants as recs
use Rattle.ccfs_base.specs.Logs.{IsLogged, IsTaken}
use Rattle.range_log.specs.Ranges.{range_call, is_touched, is_clear_of, is_range, AreRanges, is_apart_from, AreApartByStreams}
use Rattle.range_log.proofs.Clear.{is_free, clear_each, clear_from, share-comm}

-- what follows from one test of each element, or from two
implied : {X : Type 0} (p q : X → Bool) → ((x : X) → p x ≡ true → q x ≡ true) → (xs : List X) → list_all p xs ≡ true → list_all q xs ≡ true
implied p q h [] e = refl
implied p q h (x ∷ xs) e =
    let both = and_parts (p x) (list_all p xs) e in
    and_from _ _ (h x both.0) (implied p q h xs both.1)

implied_by_two : {X : Type 0} (p q r : X → Bool) → ((x : X) → p x ≡ true → q x ≡ true → r x ≡ true)
    → (xs : List X) → list_all p xs ≡ true → list_all q xs ≡ true → list_all r xs ≡ true
implied_by_two p q r h [] e f = refl
implied_by_two p q r h (x ∷ xs) e f =
    let both = and_parts (p x) (list_all p xs) e in
    let more = and_parts (q x) (list_all q xs) f in
    and_from _ _ (h x both.0 more.0) (implied_by_two p q r h xs both.1 more.1)

-- one more element at the end
and_last : {X : Type 0} (p : X → Bool) (xs : List X) (x : X) → list_all p xs ≡ true → p x ≡ true → list_all p (xs ++ x ∷ []) ≡ true
and_last p xs x e f = list_all-append p xs (x ∷ []) ∙ and_from _ _ e (and_from _ _ f refl)

-- ---- ranges

pub ranges_put : (old new : ℕ → List Rec) (stream off : ℕ) (bytes : List ℕ) → IsLogged old (range_call stream off bytes) new → AreRanges old → AreRanges new
ranges_put old new stream off bytes l h s = elim (cases_eq s stream) [
  | inl e ↦ subst (λ z. list_all is_range (new z) ≡ true) (sym e)
      (subst (λ z. list_all is_range z ≡ true) (sym l.own) (and_last is_range (old stream) (recs.Range off bytes) (h stream) refl))
  | inr n ↦ subst (λ z. list_all is_range z ≡ true) (sym (l.others s n)) (h s)
]

pub ranges_taken : (old new : ℕ → List Rec) (stream : ℕ) → IsTaken old stream new → AreRanges old → AreRanges new
ranges_taken old new stream l h s = elim (cases_eq s stream) [
  | inl e ↦ subst (λ z. list_all is_range (new z) ≡ true) (sym e) (subst (λ z. list_all is_range z ≡ true) (sym l.own) refl)
  | inr n ↦ subst (λ z. list_all is_range z ≡ true) (sym (l.others s n)) (h s)
]

-- ---- what is apart

-- clear of a log whose other streams have been free since
clear_since : (old new : ℕ → List Rec) (stream off len : ℕ) → is_clear_of old stream off len ≡ true
    → ((other : ℕ) → other ≢ stream → is_free off len (old other) ≡ true → is_free off len (new other) ≡ true)
    → is_clear_of new stream off len ≡ true
clear_since old new stream off len h more = clear_from new stream off len (λ (other : ℕ) (below : other < 64) (n : other ≢ stream).
    more other n (clear_each old stream off len h other below n))

-- a record is apart from the new logs where it was from the old, and the new range and it share nothing
apart_put_one : (old new : ℕ → List Rec) (stream off : ℕ) (bytes : List ℕ) → IsLogged old (range_call stream off bytes) new
    → (s : ℕ) (rec : Rec) → is_apart_from old s rec ≡ true → not (is_touched off (length bytes) rec) ≡ true → is_apart_from new s rec ≡ true
apart_put_one old new stream off bytes l s (recs.Range at kept) h f =
    clear_since old new s at (length kept) h (λ (other : ℕ) (n : other ≢ s) (free : is_free at (length kept) (old other) ≡ true).
    elim (cases_eq other stream) [
      | inl e ↦ subst (λ z. is_free at (length kept) (new z) ≡ true) (sym e)
          (subst (λ z. is_free at (length kept) z ≡ true) (sym l.own)
          (and_last _ (old stream) (recs.Range off bytes)
          (subst (λ z. is_free at (length kept) (old z) ≡ true) e free)
          (ap not (share-comm at (length kept) off (length bytes)) ∙ f)))
      | inr m ↦ subst (λ z. is_free at (length kept) z ≡ true) (sym (l.others other m)) free
    ])
apart_put_one old new stream off bytes l s (recs.Add at by) h f = refl
apart_put_one old new stream off bytes l s (recs.Bit at bit on) h f = refl

-- a record of the stream itself is as far from the others as before
apart_own_one : (old new : ℕ → List Rec) (stream : ℕ) → ((other : ℕ) → other ≢ stream → new other ≡ old other)
    → (rec : Rec) → is_apart_from old stream rec ≡ true → is_apart_from new stream rec ≡ true
apart_own_one old new stream l (recs.Range at kept) h =
    clear_since old new stream at (length kept) h (λ (other : ℕ) (n : other ≢ stream) (free : is_free at (length kept) (old other) ≡ true).
    subst (λ z. is_free at (length kept) z ≡ true) (sym (l other n)) free)
apart_own_one old new stream l (recs.Add at by) h = refl
apart_own_one old new stream l (recs.Bit at bit on) h = refl

-- The logs stay apart when a stream puts a range that is clear of the others.
pub apart_put : (old new : ℕ → List Rec) (stream off : ℕ) (bytes : List ℕ) → IsLogged old (range_call stream off bytes) new
    → is_clear_of old stream off (length bytes) ≡ true → ((s : ℕ) → 64 ≤ s → old s ≡ []) → AreApartByStreams old → AreApartByStreams new
apart_put old new stream off bytes l clear none h s = elim (cases_eq s stream) [
  | inl e ↦ subst (λ z. list_all (is_apart_from new z) (new z) ≡ true) (sym e)
      (subst (λ z. list_all (is_apart_from new stream) z ≡ true) (sym l.own)
      (and_last _ (old stream) (recs.Range off bytes)
      (implied _ _ (apart_own_one old new stream l.others) (old stream) (h stream))
      (apart_own_one old new stream l.others (recs.Range off bytes) clear)))
  | inr n ↦ subst (λ z. list_all (is_apart_from new s) z ≡ true) (sym (l.others s n)) (elim (cases_lt s 64) [
    | inl below ↦ implied_by_two _ _ _ (apart_put_one old new stream off bytes l s) (old s) (h s)
        (clear_each old stream off (length bytes) clear s below n)
    | inr past ↦ subst (λ z. list_all (is_apart_from new s) z ≡ true) (sym (none s past)) refl
  ])
]

apart_taken_one : (old new : ℕ → List Rec) (stream : ℕ) → IsTaken old stream new
    → (s : ℕ) (rec : Rec) → is_apart_from old s rec ≡ true → is_apart_from new s rec ≡ true
apart_taken_one old new stream l s (recs.Range at kept) h =
    clear_since old new s at (length kept) h (λ (other : ℕ) (n : other ≢ s) (free : is_free at (length kept) (old other) ≡ true).
    elim (cases_eq other stream) [
      | inl e ↦ subst (λ z. is_free at (length kept) (new z) ≡ true) (sym e)
          (subst (λ z. is_free at (length kept) z ≡ true) (sym l.own) refl)
      | inr m ↦ subst (λ z. is_free at (length kept) z ≡ true) (sym (l.others other m)) free
    ])
apart_taken_one old new stream l s (recs.Add at by) h = refl
apart_taken_one old new stream l s (recs.Bit at bit on) h = refl

-- The logs stay apart when one is taken.
pub apart_taken : (old new : ℕ → List Rec) (stream : ℕ) → IsTaken old stream new → AreApartByStreams old → AreApartByStreams new
apart_taken old new stream l h s = elim (cases_eq s stream) [
  | inl e ↦ subst (λ z. list_all (is_apart_from new z) (new z) ≡ true) (sym e)
      (subst (λ z. list_all (is_apart_from new stream) z ≡ true) (sym l.own) refl)
  | inr n ↦ subst (λ z. list_all (is_apart_from new s) z ≡ true) (sym (l.others s n))
      (implied _ _ (apart_taken_one old new stream l s) (old s) (h s))
]
