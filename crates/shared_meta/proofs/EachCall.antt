-- The steps of the calls of a metadata area.
use Rattle.std.proofs.Common.{◌≡◌, Bool, true, false, ℕ, zero, suc, ◌+◌, ◌<◌, List, [], ◌∷◌, ◌++◌, length, get_or, set, take, drop, max, min, refl, sym, ap, subst, ◌∙◌, arith, inl, inr}
use Rattle.std.specs.Prelude.{Option, None, Some, Vec}
use Rattle.std.proofs.lemmas.Bool.{ltb-true}
use Rattle.std.proofs.lemmas.List.{take_at, take_more}
use Rattle.std.proofs.lemmas.List.Elements.{All-weaker}
use Rattle.ccfs_base.specs.declared.records.Rec.{Rec}
use Rattle.ccfs_base.specs.declared.records.Rec.TheVariants as recs
use Rattle.ccfs_base.specs.Places.{Range, IsInside, AreApart}
use Rattle.ccfs_base.specs.Records.{acts_at, recorded, all_recorded, AreInside, AreFree}
use Rattle.ccfs_base.specs.Logs.{Call, IsTaken}
use Rattle.range_log.specs.Ranges.{range_call, share, is_touched, is_clear_of}
use Rattle.range_log.proofs.Clear.{clear_back}
use Rattle.delta_log.proofs.Records.{all_recorded-append}
use Rattle.shared_meta.specs.Area.{Area, area, log_of, all_streams, standing, MayLog, IsLoggedIn, IsSealed, IsPlaced}
use Rattle.shared_meta.specs.Merged.{Both, list_at, IsCalledIn, AreLogsKept}
use Rattle.shared_meta.specs.Held.{stood, IsCopy, IsHeld, kept_in}
use Rattle.shared_meta.proofs.AreaLaws.{calls_are_recorded, others_stay}
use Rattle.shared_meta.proofs.Free.{all_first}
use Rattle.shared_meta.proofs.Order.{length-put_on}
use Rattle.shared_meta.proofs.Held.{like, place_gone, place_made, place_kept, stands, copy_stood, held_copied, held_logged}

pub copy_after : {Y : Type 0} (base : List ℕ) (copy made last : Option (Vec ℕ Y)) (rec : Rec) → IsCopy made (stood copy base) → IsCopy last (recorded (stood made []) rec) → IsCopy last (recorded (stood copy base) rec)
copy_after base copy made last rec m l = subst (λ (z : List ℕ). IsCopy last (recorded z rec)) (copy_stood made (stood copy base) [] m) l

module _ {Y Z : Type 0} where
  -- the copy was made, and the logs stayed
  pub held_after : (base : List ℕ) (old new : Both) (copy made : Option (Vec ℕ Y)) (places : List (Option (Vec Rec Z))) → AreLogsKept old new → IsCopy made (stood copy base)
      → IsHeld (area (kept_in base old places)) copy places → IsHeld (area (kept_in base new places)) made places
  held_after base old new copy made places kept m held =
      held_copied (area (kept_in base old places)) (area (kept_in base new places)) copy made places
      (like (area (kept_in base old places)) (area (kept_in base new places)) (record { base = refl; ranges = kept.ranges; deltas = kept.deltas; places = λ s. refl })) m held

  pub held_call : (base : List ℕ) (old new : Both) (copy made : Option (Vec ℕ Y)) (places : List (Option (Vec Rec Z))) (i : ℕ) (call : Call) → i ≡ call.stream
      → MayLog (area (kept_in base old places)) call → IsLoggedIn (area (kept_in base old places)) call (area (kept_in base new (set places i None)))
      → IsCopy made (recorded (stood copy base) call.rec)
      → IsHeld (area (kept_in base old places)) copy places → IsHeld (area (kept_in base new (set places i None))) made (set places i None)
  held_call base old new copy made places i call e may logged m held =
      let a : Area = area (kept_in base old places) in
      let b : Area = area (kept_in base new (set places i None)) in
      subst (λ (x : ℕ). IsHeld b made (set places x None)) (sym e) (held_logged a b call copy made places (others_stay a b call held.shared may logged) may logged m held)

  -- a record lies in the copy that was made
  pub inside_made : (base : List ℕ) (old : Both) (copy made : Option (Vec ℕ Y)) (places : List (Option (Vec Rec Z))) → IsHeld (area (kept_in base old places)) copy places → IsCopy made (stood copy base)
      → length (stood made []) ≡ length base
  inside_made base old copy made places held m =
      let a : Area = area (kept_in base old places) in
      ap length (copy_stood made (stood copy base) [] m) ∙ ap length (stands a copy held.copied) ∙ length-put_on (log_of a) all_streams base

  pub standing_call : (base : List ℕ) (old new : Both) (copy : Option (Vec ℕ Y)) (places : List (Option (Vec Rec Z))) (i : ℕ) (call : Call)
      → MayLog (area (kept_in base old places)) call → IsLoggedIn (area (kept_in base old places)) call (area (kept_in base new (set places i None)))
      → IsHeld (area (kept_in base old places)) copy places
      → standing (area (kept_in base new (set places i None))) ≡ recorded (standing (area (kept_in base old places))) call.rec
  standing_call base old new copy places i call may logged held =
      (calls_are_recorded (area (kept_in base old places)) (area (kept_in base new (set places i None))) call held.shared may logged).1

module _ {Z : Type 0} where
  pub logged_in : (base : List ℕ) (old new : Both) (places : List (Option (Vec Rec Z))) (i : ℕ) (call : Call) → i ≡ call.stream → IsCalledIn old call new
      → IsLoggedIn (area (kept_in base old places)) call (area (kept_in base new (set places i None)))
  logged_in base old new places i call e got =
      subst (λ (x : ℕ). IsLoggedIn (area (kept_in base old places)) call (area (kept_in base new (set places x None)))) (sym e)
      (record { base = refl; ranges = got.ranges; deltas = got.deltas; places = place_gone places call.stream; room = got.room })

  pub placed_in : (base : List ℕ) (logs : Both) (places : List (Option (Vec Rec Z))) (i stream : ℕ) (place : Vec Rec Z) → i ≡ stream → stream < length places
      → IsPlaced (area (kept_in base logs places)) stream (area (kept_in base logs (set places i (Some place))))
  placed_in base logs places i stream place e h =
      subst (λ (x : ℕ). IsPlaced (area (kept_in base logs places)) stream (area (kept_in base logs (set places x (Some place))))) (sym e)
      (record { base = refl; ranges = λ s. refl; deltas = λ s. refl; own = place_made places stream place h; others = λ o n. place_kept places stream (Some place) o n; room = refl })

  pub sealed_in : (base new : List ℕ) (old left : Both) (places gone : List (Option (Vec Rec Z))) (stream : ℕ) → new ≡ all_recorded base (list_at old.ranges stream ++ list_at old.deltas stream)
      → IsTaken (list_at old.ranges) stream (list_at left.ranges) → IsTaken (list_at old.deltas) stream (list_at left.deltas) → left.room ≡ old.room → gone ≡ set places stream None
      → IsSealed (area (kept_in base old places)) stream (area (kept_in new left gone))
  sealed_in base new old left places gone stream e r d n g =
      subst (λ (x : List (Option (Vec Rec Z))). IsSealed (area (kept_in base old places)) stream (area (kept_in new left x))) (sym g)
      (record { base = e; ranges = r; deltas = d; places = place_gone places stream; room = n })

-- ---- ranges that may be put

pub not_shared : (off len at size : ℕ) → AreApart (Range off len) (Range at size) → (b : Bool) → share off len at size ≡ b → b ≡ false
not_shared off len at size h false e = refl
not_shared off len at size h true e =
    let l : max off at < min (off + len) (at + size) = ltb-true (max off at) (min (off + len) (at + size)) e in
    absurd (h (max off at) (omega arith) (omega arith) (omega arith) (omega arith))

untouched : (off : ℕ) (bytes : List ℕ) (rec : Rec) → AreFree (recs.Range off bytes) rec → is_touched off (length bytes) rec ≡ false
untouched off bytes (recs.Range at new) (inl h) = not_shared off (length bytes) at (length new) h (share off (length bytes) at (length new)) refl
untouched off bytes (recs.Range at new) (inr h) = absurd h
untouched off bytes (recs.Add at by) h = refl
untouched off bytes (recs.Bit at bit on) h = refl

pub may_is_clear : (a : Area) (stream off : ℕ) (bytes : List ℕ) → MayLog a (range_call stream off bytes) → is_clear_of a.ranges stream off (length bytes) ≡ true
may_is_clear a stream off bytes may =
    clear_back a.ranges stream off (length bytes)
    (λ other below n. All-weaker (AreFree (recs.Range off bytes)) (λ rec. is_touched off (length bytes) rec ≡ false) (untouched off bytes) (a.ranges other)
    (all_first (AreFree (recs.Range off bytes)) (a.ranges other) (a.deltas other) (may.others other n)))

-- ---- records put on bytes one by one

pub inside_at : (size : ℕ) (log : List Rec) (i : ℕ) (d : Rec) → AreInside size log → i < length log → IsInside size (acts_at (get_or log i d))
inside_at size [] i d h l = absurd (omega arith)
inside_at size (rec ∷ rest) zero d h l = h.0
inside_at size (rec ∷ rest) (suc i) d h l = inside_at size rest i d h.1 (omega arith)

pub one_more_recorded : (bytes : List ℕ) (log : List Rec) (i : ℕ) (d : Rec) → i < length log → recorded (all_recorded bytes (take i log)) (get_or log i d) ≡ all_recorded bytes (take (i + 1) log)
one_more_recorded bytes log i d h = sym (ap (all_recorded bytes) (take_more log i d h) ∙ all_recorded-append (take i log) (get_or log i d ∷ []) bytes)

-- bytes that were lent whole as a slice
pub whole : {X : Type 0} (new old : List X) (n : ℕ) → length new ≡ n → take n (new ++ drop (length new) old) ≡ new
whole new old n e = take_at new (drop (length new) old) n e
