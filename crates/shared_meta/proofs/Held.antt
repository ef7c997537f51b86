-- What steps leave of a metadata area in memory.
use Rattle.std.proofs.Common.{◌≡◌, ◌≢◌, true, false, ℕ, zero, suc, ◌<◌, List, [], ◌∷◌, ◌++◌, length, map, get_or, set, refl, sym, ap, subst, ◌∙◌, arith, inl, inr}
use Rattle.std.specs.Prelude.{Option, None, Some, is_some, Vec}
use Rattle.std.proofs.lemmas.Bool.{cases_eq}
use Rattle.std.proofs.lemmas.List.{get_or-set_other, get_or-set_same}
use Rattle.ccfs_base.specs.declared.records.Rec.{Rec}
use Rattle.std.specs.List.{All}
use Rattle.std.proofs.lemmas.List.Elements.{All-nil}
use Rattle.ccfs_base.specs.Records.{recorded, all_recorded, AreInside, AreFree}
use Rattle.ccfs_base.specs.Logs.{Call}
use Rattle.delta_log.specs.Laws.{AllFree}
use Rattle.shared_meta.specs.Area.{Area, put_on, log_of, all_streams, standing, IsShared, MayLog, IsLoggedIn, IsSealed, AreAsBefore, IsPlaceGone}
use Rattle.shared_meta.specs.Held.{IsPlaceFor, stood, IsCopy, IsStanding, IsHeld}
use Rattle.shared_meta.proofs.AreaLaws.{calls_are_recorded, seals_keep}

-- ---- places

module _ {T : Type 0} where
  -- whether a stream has a place, by the list of these answers
  pub seen : (places : List (Option T)) (stream : ℕ) → get_or (map (λ place. is_some place) places) stream false ≡ is_some (get_or places stream None)
  seen [] stream = refl
  seen (place ∷ places) zero = refl
  seen (place ∷ places) (suc stream) = seen places stream

  none_there : (places : List (Option T)) (stream : ℕ) → get_or (set places stream None) stream None ≡ None
  none_there [] stream = refl
  none_there (place ∷ places) zero = refl
  none_there (place ∷ places) (suc stream) = none_there places stream

  pub place_gone : (places : List (Option T)) (stream : ℕ)
      → IsPlaceGone (λ s. get_or (map (λ place. is_some place) places) s false) stream (λ s. get_or (map (λ place. is_some place) (set places stream None)) s false)
  place_gone places stream = record {
    own = seen (set places stream None) stream ∙ ap (λ (p : Option T). is_some p) (none_there places stream);
    others = λ other n. seen (set places stream None) other ∙ ap (λ (p : Option T). is_some p) (get_or-set_other places stream other None None n) ∙ sym (seen places other);
  }

  pub place_made : (places : List (Option T)) (stream : ℕ) (place : T) → stream < length places → get_or (map (λ p. is_some p) (set places stream (Some place))) stream false ≡ true
  place_made places stream place h = seen (set places stream (Some place)) stream ∙ ap (λ (p : Option T). is_some p) (get_or-set_same places stream (Some place) None h)

  pub place_kept : (places : List (Option T)) (stream : ℕ) (place : Option T) (other : ℕ) → other ≢ stream
      → get_or (map (λ p. is_some p) (set places stream place)) other false ≡ get_or (map (λ p. is_some p) places) other false
  place_kept places stream place other n = seen (set places stream place) other ∙ ap (λ (p : Option T). is_some p) (get_or-set_other places stream other place None n) ∙ sym (seen places other)

-- ---- areas with the same logs

-- The base and the logs are as before.
pub record AreLike (a b : Area) : Type 0 where
  pub base : b.base ≡ a.base
  pub log : (stream : ℕ) → log_of b stream ≡ log_of a stream

pub like : (a b : Area) → AreAsBefore a b → AreLike a b
like a b h = record {
  base = h.base;
  log = λ s. ap (λ (l : List Rec). l ++ b.deltas s) (h.ranges s) ∙ ap (λ (l : List Rec). a.ranges s ++ l) (h.deltas s);
}

put_on_same : (log new : ℕ → List Rec) → ((s : ℕ) → new s ≡ log s) → (order bytes : List ℕ) → put_on new order bytes ≡ put_on log order bytes
unfolding put_on
put_on_same log new h [] bytes = refl
put_on_same log new h (s ∷ order) bytes = ap (λ (l : List Rec). put_on new order (all_recorded bytes l)) (h s) ∙ put_on_same log new h order (all_recorded bytes (log s))

put_on_none : (log : ℕ → List Rec) → ((s : ℕ) → log s ≡ []) → (order bytes : List ℕ) → put_on log order bytes ≡ bytes
unfolding put_on
put_on_none log h [] bytes = refl
put_on_none log h (s ∷ order) bytes = ap (λ (l : List Rec). put_on log order (all_recorded bytes l)) (h s) ∙ put_on_none log h order bytes

pub standing_like : (a b : Area) → AreLike a b → standing b ≡ standing a
standing_like a b h = put_on_same (log_of a) (log_of b) h.log all_streams b.base ∙ ap (put_on (log_of a) all_streams) h.base

pub shared_like : (a b : Area) → AreLike a b → IsShared a → IsShared b
shared_like a b h shared = record {
  inside = λ s. subst (λ (z : List ℕ). AreInside (length z) (log_of b s)) (sym h.base) (subst (AreInside (length a.base)) (sym (h.log s)) (shared.inside s));
  free = λ s o n. subst (λ (l : List Rec). AllFree l (log_of b o)) (sym (h.log s)) (subst (AllFree (log_of a s)) (sym (h.log o)) (shared.free s o n));
}

module _ {Z : Type 0} where
  none_is_place : (size : ℕ) (place : Option (Vec Rec Z)) → place ≡ None → IsPlaceFor size place
  none_is_place size place e = subst (IsPlaceFor size) (sym e) tt

  places_without : (log new : ℕ → List Rec) (places : List (Option (Vec Rec Z))) (stream : ℕ) → ((s : ℕ) → s ≢ stream → new s ≡ log s)
      → ((s : ℕ) → IsPlaceFor (length (log s)) (get_or places s None)) → (s : ℕ) → IsPlaceFor (length (new s)) (get_or (set places stream None) s None)
  places_without log new places stream o h s = elim (cases_eq s stream) [
    | inl same ↦ none_is_place (length (new s)) (get_or (set places stream None) s None) (ap (λ (x : ℕ). get_or (set places stream None) x None) same ∙ none_there places stream)
    | inr n ↦
        subst (λ (p : Option (Vec Rec Z)). IsPlaceFor (length (new s)) p) (sym (get_or-set_other places stream s None None n))
        (subst (λ (l : List Rec). IsPlaceFor (length l) (get_or places s None)) (sym (o s n)) (h s))
  ]

-- ---- the copy

module _ {Y : Type 0} where
  pub stands : (a : Area) (copy : Option (Vec ℕ Y)) → IsStanding a copy → stood copy a.base ≡ standing a
  stands a None h = sym (put_on_none (log_of a) h.0 all_streams a.base)
  stands a (Some copy) h = h

  pub copied_is : (a : Area) (copy : Option (Vec ℕ Y)) (bytes : List ℕ) → IsCopy copy bytes → bytes ≡ standing a → IsStanding a copy
  copied_is a None bytes h e = absurd h
  copied_is a (Some copy) bytes h e = h ∙ e

  pub copy_made : (copy : Option (Vec ℕ Y)) (bytes : List ℕ) → IsCopy copy bytes → is_some copy ≡ true
  copy_made None bytes h = absurd h
  copy_made (Some copy) bytes h = refl

  pub copy_stood : (copy : Option (Vec ℕ Y)) (bytes base : List ℕ) → IsCopy copy bytes → stood copy base ≡ bytes
  copy_stood None bytes base h = absurd h
  copy_stood (Some copy) bytes base h = h

  -- where room was made there is a copy
  pub room_copied : (a : Area) (copy : Option (Vec ℕ Y)) (call : Call) (rest : List Call) → IsStanding a copy → a.room ≡ call ∷ rest → is_some copy ≡ true
  room_copied a None call rest h e = absurd (let x = sym h.1 ∙ e in cc)
  room_copied a (Some copy) call rest h e = refl

  standing_again : (a b : Area) (copy : Option (Vec ℕ Y)) → AreLike a b → (a.room ≡ [] → b.room ≡ []) → IsStanding a copy → IsStanding b copy
  standing_again a b None h r s = ((λ x. h.log x ∙ s.0 x), r s.1)
  standing_again a b (Some copy) h r s = s ∙ sym (standing_like a b h)

  sealed_again : (a b : Area) (stream : ℕ) (copy : Option (Vec ℕ Y)) → ((s : ℕ) → s ≢ stream → log_of b s ≡ log_of a s) → log_of b stream ≡ [] → b.room ≡ a.room → standing b ≡ standing a → IsStanding a copy → IsStanding b copy
  sealed_again a b stream None o n r e s = ((λ x. elim (cases_eq x stream) [ inl same ↦ ap (log_of b) same ∙ n | inr m ↦ o x m ∙ s.0 x ]), r ∙ s.1)
  sealed_again a b stream (Some copy) o n r e s = s ∙ sym e

  -- ---- what is held

  module _ {Z : Type 0} where
    pub held_same : (a b : Area) (copy : Option (Vec ℕ Y)) (places : List (Option (Vec Rec Z))) → AreLike a b → (a.room ≡ [] → b.room ≡ []) → IsHeld a copy places → IsHeld b copy places
    held_same a b copy places h r held = record {
      shared = shared_like a b h held.shared;
      copied = standing_again a b copy h r held.copied;
      places = λ s. subst (λ (l : List Rec). IsPlaceFor (length l) (get_or places s None)) (sym (h.log s)) (held.places s);
    }

    pub held_copied : (a b : Area) (copy made : Option (Vec ℕ Y)) (places : List (Option (Vec Rec Z))) → AreLike a b → IsCopy made (stood copy a.base) → IsHeld a copy places → IsHeld b made places
    held_copied a b copy made places h m held = record {
      shared = shared_like a b h held.shared;
      copied = copied_is b made (stood copy a.base) m (stands a copy held.copied ∙ sym (standing_like a b h));
      places = λ s. subst (λ (l : List Rec). IsPlaceFor (length l) (get_or places s None)) (sym (h.log s)) (held.places s);
    }

    pub held_logged : (a b : Area) (call : Call) (copy made : Option (Vec ℕ Y)) (places : List (Option (Vec Rec Z))) → ((s : ℕ) → s ≢ call.stream → log_of b s ≡ log_of a s)
        → MayLog a call → IsLoggedIn a call b → IsCopy made (recorded (stood copy a.base) call.rec) → IsHeld a copy places → IsHeld b made (set places call.stream None)
    held_logged a b call copy made places o may logged m held =
        let law = calls_are_recorded a b call held.shared may logged in
        record {
          shared = law.0;
          copied = copied_is b made (recorded (stood copy a.base) call.rec) m (ap (λ (z : List ℕ). recorded z call.rec) (stands a copy held.copied) ∙ sym law.1);
          places = places_without (log_of a) (log_of b) places call.stream o held.places;
        }

    pub held_placed : (a b : Area) (stream : ℕ) (place : Option (Vec Rec Z)) (copy : Option (Vec ℕ Y)) (places : List (Option (Vec Rec Z))) → AreLike a b → (a.room ≡ [] → b.room ≡ [])
        → stream < length places → IsPlaceFor (length (log_of a stream)) place → IsHeld a copy places → IsHeld b copy (set places stream place)
    held_placed a b stream place copy places h r k p held = record {
      shared = shared_like a b h held.shared;
      copied = standing_again a b copy h r held.copied;
      places = λ s. subst (λ (l : List Rec). IsPlaceFor (length l) (get_or (set places stream place) s None)) (sym (h.log s)) (elim (cases_eq s stream) [
        | inl same ↦
            subst (λ (x : ℕ). IsPlaceFor (length (log_of a x)) (get_or (set places stream place) x None)) (sym same)
            (subst (IsPlaceFor (length (log_of a stream))) (sym (get_or-set_same places stream place None k)) p)
        | inr n ↦ subst (IsPlaceFor (length (log_of a s))) (sym (get_or-set_other places stream s place None n)) (held.places s)
      ]);
    }

    pub held_sealed : (a b : Area) (stream : ℕ) (copy : Option (Vec ℕ Y)) (places : List (Option (Vec Rec Z))) → stream < 64 → IsSealed a stream b → IsHeld a copy places → IsHeld b copy (set places stream None)
    held_sealed a b stream copy places k sealed held =
        let law = seals_keep a b stream k held.shared sealed in
        let o : (s : ℕ) → s ≢ stream → log_of b s ≡ log_of a s = λ s n. ap (λ (l : List Rec). l ++ b.deltas s) (sealed.ranges.others s n) ∙ ap (λ (l : List Rec). a.ranges s ++ l) (sealed.deltas.others s n) in
        record {
          shared = law.0;
          copied = sealed_again a b stream copy o (ap (λ (l : List Rec). l ++ b.deltas stream) sealed.ranges.own ∙ sealed.deltas.own) sealed.room law.1 held.copied;
          places = places_without (log_of a) (log_of b) places stream o held.places;
        }

-- ---- nothing logged yet

pub all_none : {T : Type 0} (places : List (Option T)) (s : ℕ) → ((k : ℕ) (d : Option T) → k < length places → get_or places k d ≡ None) → get_or places s None ≡ None
all_none [] s h = refl
all_none (place ∷ places) zero h = h 0 None (omega arith)
all_none {T} (place ∷ places) (suc s) h = all_none places s (λ (k : ℕ) (d : Option T) (l : k < length places). h (suc k) d (omega arith))

pub held_none : {Y Z : Type 0} (a : Area) (places : List (Option (Vec Rec Z))) → ((s : ℕ) → a.ranges s ≡ []) → ((s : ℕ) → a.deltas s ≡ []) → a.room ≡ [] → ((s : ℕ) → get_or places s None ≡ None) → IsHeld {Y = Y} a None places
held_none {Y} {Z} a places r d n p =
    let log : (s : ℕ) → log_of a s ≡ [] = λ s. ap (λ (l : List Rec). l ++ a.deltas s) (r s) ∙ d s in
    record {
      shared = record {
        inside = λ s. subst (AreInside (length a.base)) (sym (log s)) tt;
        free = λ s o m. subst (λ (l : List Rec). AllFree l (log_of a o)) (sym (log s)) (All-nil (λ (rec : Rec). All (AreFree rec) (log_of a o)));
      };
      copied = (log, n);
      places = λ s. none_is_place (length (log_of a s)) (get_or places s None) (p s);
    }
