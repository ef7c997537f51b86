-- The places in the queue, and the order of the batches that wait.
use Rattle.std.proofs.Common.{◌≡◌, ℕ, zero, suc, ◌+◌, ◌<◌, ◌≤◌, inl, inr, Bool, true, false, List, [], ◌∷◌, ◌++◌, length, map, set, get_or, refl, sym, ap, subst, ◌∙◌, arith, Vec}
use Rattle.std.specs.Prelude.{Option, None, is_some}
use Rattle.std.proofs.lemmas.Bool.{cases_eq}
use Rattle.std.proofs.lemmas.List.{get_or-set_same, get_or-set_other}
use Rattle.file_bodies.specs.declared.batches.Sealed.{Sealed}
use Rattle.stream_txn.specs.Kept.{next, AreInOrder}
use Rattle.stream_txn.specs.Space.{IsPlace, count}

-- ---- how many have a place

pub count_within : (places : List Bool) → count places ≤ length places
count_within [] = omega arith
count_within (true ∷ rest) = let more : count rest ≤ length rest = count_within rest in omega arith
count_within (false ∷ rest) = let more : count rest ≤ length rest = count_within rest in omega arith

pub count_less : (places : List Bool) (at : ℕ) → get_or places at false ≡ true → count (set places at false) + 1 ≡ count places
count_less [] at e = absurd (cc e)
count_less (true ∷ rest) zero e = refl
count_less (false ∷ rest) zero e = absurd (cc e)
count_less (true ∷ rest) (suc at) e = let more : count (set rest at false) + 1 ≡ count rest = count_less rest at e in omega arith
count_less (false ∷ rest) (suc at) e = count_less rest at e

-- ---- the order

pub in_order_last : (first : ℕ) (queue : List Sealed) (last : ℕ) (batch : Sealed) → AreInOrder first queue last → batch.number ≡ next last
    → AreInOrder first (queue ++ batch ∷ []) batch.number
in_order_last first [] last batch h e = (e ∙ ap next (sym h), refl)
in_order_last first (head ∷ rest) last batch h e = (h.0, in_order_last head.number rest last batch h.1 e)

-- ---- the lists of the places

module _ {T : Type 0} where
  pub length-seen : (places : List (Option T)) → length (map (λ place. is_some place) places) ≡ length places
  length-seen [] = refl
  length-seen (place ∷ places) = ap suc (length-seen places)

  -- whether a stream has a place, by the list of these answers
  pub seen : (places : List (Option T)) (stream : ℕ) → get_or (map (λ place. is_some place) places) stream false ≡ is_some (get_or places stream None)
  seen [] stream = refl
  seen (place ∷ places) zero = refl
  seen (place ∷ places) (suc stream) = seen places stream

  none_there : (places : List (Option T)) (stream : ℕ) → get_or (set places stream None) stream None ≡ None
  none_there [] stream = refl
  none_there (place ∷ places) zero = refl
  none_there (place ∷ places) (suc stream) = none_there places stream

  -- no stream has a place, where each answers so
  pub all_none : (places : List (Option T)) (stream : ℕ) → ((k : ℕ) (d : Option T) → k < length places → get_or places k d ≡ None) → get_or places stream None ≡ None
  all_none [] stream h = refl
  all_none (place ∷ places) zero h = h 0 None (omega arith)
  all_none (place ∷ places) (suc stream) h = all_none places stream (λ (k : ℕ) (d : Option T) (l : k < length places). h (suc k) d (omega arith))

module _ {Z : Type 0} where
  pub place_gone : (places : List (Option (Vec Sealed Z))) (stream : ℕ) → ((s : ℕ) → IsPlace (get_or places s None)) → (s : ℕ) → IsPlace (get_or (set places stream None) s None)
  place_gone places stream h s = elim (cases_eq s stream) [
    | inl e ↦ subst (λ (p : Option (Vec Sealed Z)). IsPlace p) (sym (ap (λ (x : ℕ). get_or (set places stream None) x None) e ∙ none_there places stream)) tt
    | inr n ↦ subst (λ (p : Option (Vec Sealed Z)). IsPlace p) (sym (get_or-set_other places stream s None None n)) (h s)
  ]

  pub place_made : (places : List (Option (Vec Sealed Z))) (stream : ℕ) (place : Option (Vec Sealed Z)) → stream < length places → IsPlace place
      → ((s : ℕ) → IsPlace (get_or places s None)) → (s : ℕ) → IsPlace (get_or (set places stream place) s None)
  place_made places stream place l p h s = elim (cases_eq s stream) [
    | inl e ↦
        subst (λ (x : ℕ). IsPlace (get_or (set places stream place) x None)) (sym e)
        (subst (λ (q : Option (Vec Sealed Z)). IsPlace q) (sym (get_or-set_same places stream place None l)) p)
    | inr n ↦ subst (λ (q : Option (Vec Sealed Z)). IsPlace q) (sym (get_or-set_other places stream s place None n)) (h s)
  ]
