-- The rule at the start, and what it shows at the end.
use Rattle.std.proofs.Common.{◌≡◌, ◌⊎◌, ℕ, zero, suc, ◌≤◌, ◌<◌, true, false, true≢false, List, [], ◌∷◌, length, refl, ap, sym, ◌∙◌, subst, arith, Option, Some, None, inl, inr}
use mathlib.Core.Option.{some, some-injective, some-ne-none}
use mathlib.Core.List.{IsPrefix}
use lib.ListN.{get_elem?}
use Rattle.atomic_table.specs.Table.{Final, Seen, opening}
use Rattle.turn_table.specs.declared.view.Place.{Place}
use Rattle.turn_table.specs.declared.view.Place.TheVariants.{Front, Back}
use Rattle.turn_table.specs.declared.view.Who.TheVariants.{First}
use Rattle.turn_table.specs.declared.view.FrontPhase.TheVariants.{Holds}
use Rattle.turn_table.specs.declared.view.BackPhase.TheVariants.{Writes}
use Rattle.turn_table.specs.declared.view.Ended.{Ended}
use Rattle.turn_table.specs.declared.view.View.{View}
use Rattle.turn_table.specs.Values.{of_caller, Each, FrontMeaning, BackMeaning, calls_of}
use Rattle.turn_table.specs.Views.{given_of, first_view}
use Rattle.turn_table.specs.Rule.{Hidden, IsFailure, IsCaller, FrontFits, BackFits, WhoFits, EndedFits, Fits, FrontStands, BackStands, FrontTurn, BackTurn, TurnState, Ruled}
use Rattle.turn_table.specs.Told.{HasEnded, CanStart, Closes}
use Rattle.turn_table.proofs.Lists.{prefix_self, prefix_none, drop_self, each_map}
use Rattle.turn_table.proofs.Fitting.{caller_fits}

place_front : {F B : Type 0} → F → Place F B → F
place_front d (Front x) = x
place_front d _ = d

pub front_place_is : {F B : Type 0} (x y : F) → ◌≡◌ {A = Place F B} (Front x) (Front y) → x ≡ y
unfolding place_front
front_place_is {F} {B} x y e = ap (place_front {F = F} {B = B} x) e

place_back : {F B : Type 0} → B → Place F B → B
place_back d (Back x) = x
place_back d _ = d

pub back_place_is : {F B : Type 0} (x y : B) → ◌≡◌ {A = Place F B} (Back x) (Back y) → x ≡ y
unfolding place_back
back_place_is {F} {B} x y e = ap (place_back {F = F} {B = B} x) e

module _ {F B E : Type 0} (M : FrontMeaning F E) (caller : E → ℕ) (N : BackMeaning B E) (first : F) (rear : B) where
  -- what the rule knows at the start
  abbrev start : Hidden E
  start = record {
    log = M.entries first;
    fail = M.fault first;
    holder = None;
    heard = N.heard rear;
    written = N.written rear;
    back_fail = N.fault rear;
    due = M.handed first;
    writer = None;
    given = 0;
    over = λ c. false;
    seat = λ c. 0;
  }

  pub opens : (words : List ℕ) → words ≡ 0 ∷ length (M.entries first) ∷ 0 ∷ N.written rear ∷ [] → CanStart M N first rear → Ruled M caller N first rear (opening words (Front first ∷ Back rear ∷ []) (first_view M N first rear))
  opens words is can = subst (λ (ws : List ℕ). Ruled M caller N first rear (opening ws (Front first ∷ Back rear ∷ []) (first_view M N first rear))) (sym is) record {
    h = start;
    sized = (refl, refl);
    front = (refl, (first, refl, (refl, refl, refl, can.0)));
    back = (refl, (rear, refl, (refl, refl, refl, can.4, can.1)));
    counts = (refl, refl);
    sound = (prefix_self (M.entries first), can.2, (let a = can.3 in let b = can.4 in omega (arith, a, b)), λ c le. (ap (of_caller caller c) (drop_self (M.entries first)), refl));
    each = one;
  }
    where
      one : (id : ℕ) (v : View F B E) → get_elem? (first_view M N first rear ∷ []) id ≡ some v → Fits M caller N first rear start id v
      one zero v e = subst (Fits M caller N first rear start 0) (some-injective _ _ e) record { seen = prefix_self (M.entries first); heard_of = prefix_none (M.entries first); counted = omega arith; known = omega arith; failed = inl refl; who = (refl, refl, (refl, refl)); front = tt; back = tt; ended = tt }
      one (suc id) v e = absurd (some-ne-none v (sym e))

  ended_is : (h : Hidden E) (c : ℕ) (es : List (Ended E)) → Each (EndedFits M caller N first rear h) es → HasEnded c es → h.over c ≡ true
  ended_is h c [] fits has = absurd has
  ended_is h c (e ∷ es) fits (inl is) = ap h.over (sym is) ∙ fits.0.1
  ended_is h c (e ∷ es) fits (inr has) = ended_is h c es fits.1 has

  pub closes : (id n : ℕ) (v : View F B E) (ws : List ℕ) (xs : List (Place F B)) → v.who ≡ First n → ((c : ℕ) → c < n → HasEnded c v.ended) → Final (Seen (Ruled M caller N first rear) id v) ws xs
      → (f : F) × (b : B) × (get_elem? xs 0 ≡ some (Front f)) × (get_elem? xs 1 ≡ some (Back b)) × Closes M caller N first rear v f b
  closes id n v ws xs who all final = both r.h.holder refl r.h.writer refl
    where
      s : TurnState F B E
      s = final.0

      r : Ruled M caller N first rear s
      r = final.1.0

      was : Fits M caller N first rear r.h id v
      was = r.each id v final.1.1

      mine : WhoFits M caller N first rear r.h id v.opening v.rear v.mine (First n)
      mine = subst (WhoFits M caller N first rear r.h id v.opening v.rear v.mine) who was.who

      -- every caller's seat ended
      no_caller : (o : ℕ) (u : View F B E) → get_elem? s.views o ≡ some u → IsCaller u.who → ⊥
      no_caller o u there is =
          let live = caller_fits M caller N first rear r.h o is.0 u (r.each o u there) is.1 in
          let lt : is.0 < n = let a = live.0 in let b = mine.1 in omega (arith, a, b) in
          true≢false (sym (ended_is r.h is.0 v.ended was.ended (all is.0 lt)) ∙ live.1)

      shown : (f : F) (b : B) → FrontStands M caller N first rear r.h f → BackStands M caller N first rear r.h b → Closes M caller N first rear v f b
      shown f b front back = record {
        kin = (front.3, back.4);
        begun = subst (IsPrefix (M.entries first)) (sym front.0) r.sound.0;
        seen = subst (IsPrefix v.seen) (sym front.0) was.seen;
        counted = subst (λ (l : List E). v.counted ≤ length l) (sym front.0) was.counted;
        known = let k = was.known in let e = back.1 in omega (arith, k, e);
        failed = subst (λ (x : ℕ × ℕ). (v.failed ≡ 0) ⊎ ((v.failed ≡ x.0) ⊎ (v.failed ≡ x.1))) (λ i. (sym front.1 i, sym back.2 i)) was.failed;
        heard = subst (λ (x : List E × List E). IsPrefix x.0 x.1) (λ i. (sym back.0 i, sym front.0 i)) r.sound.1;
        numbers = ((let e = back.1 in let d = back.3 in let le = r.sound.2 in omega (arith, e, d, le)), back.3 ∙ sym front.2);
        ended = subst (λ (x : List E × ℕ × ℕ × ℕ). Each (λ e. (calls_of M caller first e.caller x.0 ≡ e.mine) × IsPrefix e.seen x.0 × (e.known ≤ x.1) × ((e.failed ≡ 0) ⊎ ((e.failed ≡ x.2) ⊎ (e.failed ≡ x.3)))) v.ended) (λ i. (sym front.0 i, sym back.1 i, sym front.1 i, sym back.2 i))
            (each_map (EndedFits M caller N first rear r.h) (λ e. (calls_of M caller first e.caller r.h.log ≡ e.mine) × IsPrefix e.seen r.h.log × (e.known ≤ r.h.written) × IsFailure r.h e.failed) v.ended (λ e t. (t.2, t.3, t.4, t.5)) was.ended);
        others = λ c le. ap (calls_of M caller first c) front.0 ∙ (r.sound.3 c (let a = mine.1 in let k : n ≤ c = subst (λ (k : ℕ). k ≤ c) (ap given_of who) le in omega (arith, a, k))).0;
      }

      both : (o : Option ℕ) → r.h.holder ≡ o → (q : Option ℕ) → r.h.writer ≡ q → (f : F) × (b : B) × (get_elem? xs 0 ≡ some (Front f)) × (get_elem? xs 1 ≡ some (Back b)) × Closes M caller N first rear v f b
      both None is None is' =
          let t = (subst (FrontTurn M caller N first rear r.h s) is r.front).1 in
          let u = (subst (BackTurn M caller N first rear r.h s) is' r.back).1 in
          (t.0, u.0, final.4 0 (Front t.0) t.1, final.4 1 (Back u.0) u.1, shown t.0 u.0 t.2 u.2)
      both (Some o) is q is' =
          let t = (subst (FrontTurn M caller N first rear r.h s) is r.front).1 in
          let fits : FrontFits r.h o t.0.who (Holds r.h.log r.h.fail r.h.due) = subst (FrontFits r.h o t.0.who) t.2 (r.each o t.0 t.1).front in
          absurd (no_caller o t.0 t.1 fits.4)
      both None is (Some o) is' =
          let t = (subst (BackTurn M caller N first rear r.h s) is' r.back).1 in
          let fits : BackFits r.h o t.0.who (Writes r.h.heard r.h.written r.h.back_fail r.h.due) = subst (BackFits r.h o t.0.who) t.2 (r.each o t.0 t.1).back in
          absurd (no_caller o t.0 t.1 fits.5)
