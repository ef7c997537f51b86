-- The steps on the front turn keep the rule.
use Rattle.std.proofs.Common.{◌≡◌, ◌≢◌, ◌⊎◌, ℕ, ◌≤◌, ◌==◌, Bool, false, true≢false, List, ◌∷◌, ◌++◌, length, drop, set, refl, ap, sym, ◌∙◌, subst, arith, length-append, length-set, get_or-set_other, get_or-set_same, eq-eqb, ne_eqb, Option, Some, None, inl, inr}
use Rattle.std.specs.Prelude.{slice_index}
use Rattle.std.proofs.lemmas.List.{append-nil, drop-append-le}
use mathlib.Core.Logic.{dite}
use mathlib.Core.Option.{some, none}
use mathlib.Core.List.{IsPrefix}
use native.Mathlib.Decide.{ℕ_discrete}
use lib.ListN.{get_elem?}
use prog.Atomic.{either}
use Rattle.atomic_table.specs.Table.{keeps, takes, gives, stepped, Allows, rest, homes_after, put_back}
use Rattle.atomic_table.proofs.Lists.{set_here, set_else}
use Rattle.turn_table.specs.declared.view.Place.{Place}
use Rattle.turn_table.specs.declared.view.Place.TheVariants.{Front}
use Rattle.turn_table.specs.declared.view.Who.{Who}
use Rattle.turn_table.specs.declared.view.Who.TheVariants.{First, Caller, Note, Spent}
use Rattle.turn_table.specs.declared.view.FrontPhase.TheVariants.{Away, Holds}
use Rattle.turn_table.specs.declared.view.BackPhase.{BackPhase}
use Rattle.turn_table.specs.declared.view.BackPhase.TheVariants.{Rests, Writes}
use Rattle.turn_table.specs.declared.view.Ended.{Ended}
use Rattle.turn_table.specs.declared.view.View.{View}
use Rattle.turn_table.specs.Values.{of_caller, Each, FrontMeaning, BackMeaning, calls_of}
use Rattle.turn_table.specs.Views.{kept, with_due, holding, away, met_front, entered}
use Rattle.turn_table.specs.Rule.{Hidden, IsFailure, FrontFits, BackFits, WhoFits, EndedFits, Fits, FrontStands, FrontTurn, BackTurn, TurnState, Ruled}
use Rattle.turn_table.specs.Told.{TurnMe, FrontBeside, ShowsFront, took_front, stored_front, gave_front, Hands}
use Rattle.turn_table.proofs.Lists.{prefix_self, prefix_more, prefix_length, drop_whole, each_map, here, of_caller_append, of_caller_all, of_caller_none}
use Rattle.turn_table.proofs.Fitting.{or_else_is, failure_front, front_free, front_else, back_else, back_same, GoesOn, with_phases, fits_on, on_holder, caller_fits}
use Rattle.turn_table.proofs.Moving.{back_still, counts_else, still_sized, moves, quiet}

-- the log goes on
abbrev grown : {E : Type 0} → Hidden E → List E → ℕ → ℕ → Hidden E
grown h more fail due = record h { log = h.log ++ more; fail = fail; due = due }

front_or : {F B : Type 0} → F → List (ℕ × Place F B) → F
front_or d ((k, Front x) ∷ xs) = x
front_or d _ = d

-- one front value lies in the slot that was taken last
front_is : {F B : Type 0} (x y : F) (xs ys : List (ℕ × Place F B)) → ◌≡◌ {A = List (ℕ × Place F B)} ((0, Front x) ∷ xs) ((0, Front y) ∷ ys) → x ≡ y
unfolding front_or
front_is x y xs ys e = ap (front_or x) e

module _ {F B E : Type 0} (M : FrontMeaning F E) (caller : E → ℕ) (N : BackMeaning B E) (first : F) (rear : B) where
  -- what a free turn's value shows
  shows : (h : Hidden E) (id c : ℕ) (v : View F B E) (f : F) → IsPrefix h.heard h.log → Fits M caller N first rear h id v → v.who ≡ Caller c → FrontStands M caller N first rear h f → ShowsFront M caller v f
  shows h id c v f heard fits who stands = let mine = caller_fits M caller N first rear h id c v fits who in record {
    seen = subst (IsPrefix v.seen) (sym stands.0) fits.seen;
    counted = subst (λ (l : List E). v.counted ≤ length l) (sym stands.0) fits.counted;
    kin = λ o is. let e : first ≡ o = cc (is, mine.4.0) in subst (λ (x : F). M.kin x f) e stands.3;
    mine = λ o d is who'. let e : first ≡ o = cc (is, mine.4.0) in let e' : c ≡ d = cc (who, who') in
        subst (λ (x : F × ℕ). calls_of M caller x.0 x.1 (M.entries f) ≡ v.mine) (λ i. (e i, e' i)) (subst (λ (l : List E). calls_of M caller first c l ≡ v.mine) (sym stands.0) mine.3);
    beside = beside_is v.back fits.back;
  }
    where
      beside_is : (p : BackPhase E) → BackFits h id v.who p → FrontBeside p (M.entries f) (M.handed f)
      beside_is Rests fits = tt
      beside_is (Writes l n k d) fits = (stands.2 ∙ sym fits.4, subst (λ (x : List E × List E). IsPrefix x.0 x.1) (λ i. (sym fits.1 i, sym stands.0 i)) heard)

  turn_free : (s : TurnState F B E) (r : Ruled M caller N first rear s) (o : Option ℕ) → r.h.holder ≡ o → slice_index s.words 0 ≡ 0 → (r.h.holder ≡ None) × ((f : F) × (get_elem? s.homes 0 ≡ some (some (Front f))) × FrontStands M caller N first rear r.h f)
  turn_free s r None is z = (is, (subst (FrontTurn M caller N first rear r.h s) is r.front).1)
  turn_free s r (Some i) is z = let t = (subst (FrontTurn M caller N first rear r.h s) is r.front).0 in absurd (omega (arith, t, z))

  -- a free turn is taken
  hit : (s : TurnState F B E) (r : Ruled M caller N first rear s) (id c : ℕ) (cs : List (ℕ × Place F B)) (v : View F B E) (f : F) → v.who ≡ Caller c → get_elem? s.views id ≡ some v → r.h.holder ≡ None → FrontStands M caller N first rear r.h f
      → Ruled M caller N first rear (stepped s 0 1 id cs (holding M v f) (takes 0 (Front f)))
  hit s r id c cs v f who at free stands =
      let w = holding M v f in
      let h' : Hidden E = record r.h { holder = Some id } in
      let on = on_holder M caller N first rear r.h (Some id) in
      let was = r.each id v at in
      let sized = r.sized in
      moves M caller N first rear s r h' id w (set s.words 0 1) (set s.homes 0 none) (still_sized M caller N first rear s r 0 1 0 none)
      (get_or-set_same s.words 0 1 0 (omega (arith, sized)), (w, here s.views id v w at, λ i. Holds (stands.0 i) (stands.1 i) (stands.2 i)))
      (back_still M caller N first rear r.h h' refl refl refl refl s (set s.words 0 1) (set s.homes 0 none) id v w refl at (get_or-set_other s.words 0 2 1 0 (λ e. omega arith)) (set_else s.homes 0 1 none (λ e. omega arith)) r.h.writer r.back)
      (counts_else M caller N first rear h' s.words 0 1 (λ e. omega arith) (λ e. omega arith) r.counts)
      r.sound
      (with_phases M caller N first rear r.h h' id v w.front v.back on was was.who (refl, stands.0, stands.1, stands.2, (c, who)) (back_same r.h h' id v.who v.back refl refl refl refl refl was.back))
      (λ j u apart fits. fits_on M caller N first rear r.h h' j u on fits fits.who (front_free r.h h' j u.who u.front free fits.front) (back_same r.h h' j u.who u.back refl refl refl refl refl fits.back))

  pub takes_front : (slots id c : ℕ) (me : TurnMe F B E) → me.0.who ≡ Caller c → Allows (Ruled M caller N first rear) slots id me 0 (λ n. either (n == 0) 1 n) (took_front M caller me)
  takes_front slots id c me who s r deep at small = let n : ℕ = slice_index s.words 0 in let was = r.each id me.0 at in
      dite (ℕ_discrete n 0)
      (λ z. let t = turn_free s r r.h.holder refl z in let f = t.1.0 in let w = holding M me.0 f in (
        w,
        takes 0 (Front f),
        t.1.1,
        subst (λ (b : Bool). Ruled M caller N first rear (stepped s 0 (either b 1 n) id me.1 w (takes 0 (Front f)))) (sym (eq-eqb n 0 z)) (hit s r id c me.1 me.0 f who at t.0 t.1.2),
        ((λ _. (f, refl, refl, shows r.h id c me.0 f r.sound.1 was who t.1.2)), (λ nz. absurd (nz z))),
      ))
      (λ nz. let w = met_front me.0 in (
        w,
        keeps,
        tt,
        subst (λ (b : Bool). Ruled M caller N first rear (stepped s 0 (either b 1 n) id me.1 w keeps)) (sym (ne_eqb n 0 nz))
            (quiet M caller N first rear s r 0 id me.0 w at refl refl record { seen = was.seen; heard_of = was.heard_of; counted = was.counted; known = was.known; failed = was.failed; who = was.who; front = was.front; back = was.back; ended = was.ended }),
        ((λ z. absurd (nz z)), (λ _. refl)),
      ))

  -- what a seat that holds the turn keeps
  holder_of : (s : TurnState F B E) (r : Ruled M caller N first rear s) (id : ℕ) (v : View F B E) (list : List E) (fail handed : ℕ) → get_elem? s.views id ≡ some v → v.front ≡ Holds list fail handed → FrontFits r.h id v.who (Holds list fail handed)
  holder_of s r id v list fail handed at holds = subst (FrontFits r.h id v.who) holds (r.each id v at).front

  pub gives_front : (slots id : ℕ) (me : TurnMe F B E) (f : F) → me.1 ≡ (0, Front f) ∷ rest me.1 → (list : List E) (fail handed : ℕ) → me.0.front ≡ Holds list fail handed → M.entries f ≡ list → M.fault f ≡ fail → M.handed f ≡ handed → M.kin first f
      → Allows (Ruled M caller N first rear) slots id me 0 (λ _. 0) (λ _. gave_front me 0)
  gives_front slots id me f has list fail handed holds same failed number kin s r deep at small =
      let p = holder_of s r id me.0 list fail handed at holds in
      let w = away me.0 in
      let h' : Hidden E = record r.h { holder = None } in
      let on = on_holder M caller N first rear r.h None in
      let was = r.each id me.0 at in
      let sized = r.sized in
      let is : homes_after s.homes me.1 gives ≡ set s.homes 0 (some (Front f)) = ap (λ c. put_back s.homes c) has in (
        w,
        gives,
        tt,
        subst (λ (hs : List (mathlib.Core.Option.Option (Place F B))). Ruled M caller N first rear record { words = set s.words 0 0; homes = hs; views = set s.views id w }) (sym is)
            (moves M caller N first rear s r h' id w (set s.words 0 0) (set s.homes 0 (some (Front f))) (still_sized M caller N first rear s r 0 0 0 (some (Front f)))
            (get_or-set_same s.words 0 0 0 (omega (arith, sized)), (f, set_here s.homes 0 (some (Front f)) (omega (arith, sized)), (same ∙ p.1, failed ∙ p.2, number ∙ p.3, kin)))
            (back_still M caller N first rear r.h h' refl refl refl refl s (set s.words 0 0) (set s.homes 0 (some (Front f))) id me.0 w refl at (get_or-set_other s.words 0 2 0 0 (λ e. omega arith)) (set_else s.homes 0 1 (some (Front f)) (λ e. omega arith)) r.h.writer r.back)
            (counts_else M caller N first rear h' s.words 0 0 (λ e. omega arith) (λ e. omega arith) r.counts)
            r.sound
            (with_phases M caller N first rear r.h h' id me.0 Away me.0.back on was was.who tt (back_same r.h h' id me.0.who me.0.back refl refl refl refl refl was.back))
            (λ j u apart fits. fits_on M caller N first rear r.h h' j u on fits fits.who (front_else r.h h' id j u.who u.front p.0 apart fits.front) (back_same r.h h' j u.who u.back refl refl refl refl refl fits.back))),
        refl,
      )

  -- the log goes on by the entries of a caller whose seat lasts
  module _ (h : Hidden E) (more : List E) (fail due c id : ℕ) (begun : length (M.entries first) ≤ length h.log) (by : Each (λ e. caller e ≡ c) more) (fails : (h.fail ≡ 0) ⊎ (fail ≡ h.fail)) where
    calls_more : (d : ℕ) → calls_of M caller first d (h.log ++ more) ≡ calls_of M caller first d h.log ++ of_caller caller d more
    calls_more d = ap (of_caller caller d) (drop-append-le (length (M.entries first)) h.log more begun) ∙ of_caller_append caller d (drop (length (M.entries first)) h.log) more

    calls_mine : calls_of M caller first c (h.log ++ more) ≡ calls_of M caller first c h.log ++ more
    calls_mine = calls_more c ∙ ap (λ l. calls_of M caller first c h.log ++ l) (of_caller_all caller c more by)

    calls_else : (d : ℕ) → d ≢ c → calls_of M caller first d (h.log ++ more) ≡ calls_of M caller first d h.log
    calls_else d apart = calls_more d ∙ (ap (λ l. calls_of M caller first d h.log ++ l) (of_caller_none caller c d more apart by) ∙ append-nil (calls_of M caller first d h.log))

    who_grows : (j : ℕ) (o : Option F) (q : Option B) (mine : List E) (who : Who) → h.seat c ≡ id → j ≢ id → WhoFits M caller N first rear h j o q mine who → WhoFits M caller N first rear (grown h more fail due) j o q mine who
    who_grows j o q mine (First n) seat apart fits = fits
    who_grows j o q mine (Caller d) seat apart fits = (fits.0, fits.1, fits.2, calls_else d (λ e. apart (sym fits.2 ∙ (ap h.seat e ∙ seat))) ∙ fits.3, fits.4)
    who_grows j o q mine Note seat apart fits = fits
    who_grows j o q mine Spent seat apart fits = fits

    failed_grows : (n : ℕ) → IsFailure h n → IsFailure (grown h more fail due) n
    failed_grows n was = failure_front h (grown h more fail due) n fails refl was

    ended_grows : (e : Ended E) → h.over c ≡ false → EndedFits M caller N first rear h e → EndedFits M caller N first rear (grown h more fail due) e
    ended_grows e lasts fits = (fits.0, fits.1, calls_else e.caller (λ same. true≢false (sym fits.1 ∙ (ap h.over same ∙ lasts))) ∙ fits.2, prefix_more e.seen h.log more fits.3, fits.4, failed_grows e.failed fits.5)

    on_grown : h.over c ≡ false → GoesOn M caller N first rear h (grown h more fail due)
    on_grown lasts = record { log = (more, refl); written = omega arith; failed = failed_grows; ended = λ e t. ended_grows e lasts t }

  -- The number of entries is stored. What that does to the batches that are due, and to the back turn, is given.
  store_as : (s : TurnState F B E) (r : Ruled M caller N first rear s) (id c n : ℕ) (cs : List (ℕ × Place F B)) (v : View F B E) (f : F) (more : List E) (due : ℕ) → v.who ≡ Caller c → get_elem? s.views id ≡ some v → r.h.holder ≡ Some id
      → kept v.front ≡ r.h.log → M.entries f ≡ r.h.log ++ more → Each (λ e. caller e ≡ c) more → (r.h.fail ≡ 0) ⊎ (M.fault f ≡ r.h.fail) → n ≡ length (M.entries f) → M.handed f ≡ due → r.h.due ≤ due
      → BackFits (grown r.h more (M.fault f) due) id v.who (with_due v.back (M.handed f))
      → ((j : ℕ) (u : View F B E) → j ≢ id → BackFits r.h j u.who u.back → BackFits (grown r.h more (M.fault f) due) j u.who u.back)
      → BackTurn M caller N first rear (grown r.h more (M.fault f) due) (stepped s 1 n id cs (entered M v f) keeps) r.h.writer
      → Ruled M caller N first rear (stepped s 1 n id cs (entered M v f) keeps) × (calls_of M caller first c (M.entries f) ≡ (entered M v f).mine)
  store_as s r id c n cs v f more due who at held list grew by fails count number goes back backs turn =
      let w = entered M v f in
      let h' = grown r.h more (M.fault f) due in
      let was = r.each id v at in
      let begun = prefix_length (M.entries first) r.h.log r.sound.0 in
      let mine = caller_fits M caller N first rear r.h id c v was who in
      let on = on_grown r.h more (M.fault f) due c id begun by fails mine.1 in
      let added : drop (length (kept v.front)) (M.entries f) ≡ more = (λ i. drop (length (list i)) (grew i)) ∙ drop_whole r.h.log more in
      let now : calls_of M caller first c (r.h.log ++ more) ≡ w.mine = calls_mine r.h more (M.fault f) due c id begun by fails ∙ (λ i. mine.3 i ++ sym added i) in
      let sized = r.sized in (
        moves M caller N first rear s r h' id w (set s.words 1 n) s.homes (length-set s.words 1 n ∙ r.sized.0, r.sized.1)
            (subst (FrontTurn M caller N first rear h' (stepped s 1 n id cs w keeps)) (sym held)
            (get_or-set_other s.words 1 0 n 0 (λ e. omega arith) ∙ (subst (FrontTurn M caller N first rear r.h s) held r.front).0, (w, here s.views id v w at, λ i. Holds (grew i) (M.fault f) (number i))))
            turn
            (get_or-set_same s.words 1 n 0 (omega (arith, sized)) ∙ (count ∙ ap length grew), get_or-set_other s.words 1 3 n 0 (λ e. omega arith) ∙ r.counts.1) (
              prefix_more (M.entries first) r.h.log more r.sound.0,
              prefix_more r.h.heard r.h.log more r.sound.1,
              (let owed = r.sound.2 in omega (arith, owed, goes)),
              λ d over. (calls_else r.h more (M.fault f) due c id begun by fails d (λ e. let lt = mine.0 in omega (arith, over, e, lt)) ∙ (r.sound.3 d over).0, (r.sound.3 d over).1),
            )
            record {
              seen = subst (λ (l : List E). IsPrefix l (r.h.log ++ more)) (sym grew) (prefix_self (r.h.log ++ more));
              heard_of = prefix_more v.heard_of r.h.log more was.heard_of;
              counted = let k = length-append r.h.log more in let le = was.counted in omega (arith, k, le);
              known = was.known;
              failed = or_else_is (IsFailure h') (M.fault f) v.failed (inr (inl refl)) (on.failed v.failed was.failed);
              who = subst (WhoFits M caller N first rear h' id v.opening v.rear w.mine) (sym who) (mine.0, mine.1, mine.2, now, mine.4);
              front = (held, grew, refl, number, (c, who));
              back = back;
              ended = each_map (EndedFits M caller N first rear r.h) (EndedFits M caller N first rear h') v.ended on.ended was.ended;
            }
            (λ j u apart fits. fits_on M caller N first rear r.h h' j u on fits (who_grows r.h more (M.fault f) due c id begun by fails j u.opening u.rear u.mine u.who mine.2 apart fits.who) (front_else r.h h' id j u.who u.front held apart fits.front) (backs j u apart fits.back)),
        subst (λ (l : List E). calls_of M caller first c l ≡ w.mine) (sym grew) now,
      )

  -- the number of entries is stored by a seat that has no back turn, or has it
  store_by : (s : TurnState F B E) (r : Ruled M caller N first rear s) (id c n : ℕ) (cs : List (ℕ × Place F B)) (v : View F B E) (f : F) (more : List E) → v.who ≡ Caller c → get_elem? s.views id ≡ some v → r.h.holder ≡ Some id
      → kept v.front ≡ r.h.log → M.entries f ≡ r.h.log ++ more → Each (λ e. caller e ≡ c) more → (r.h.fail ≡ 0) ⊎ (M.fault f ≡ r.h.fail) → n ≡ length (M.entries f) → (p : BackPhase E) → v.back ≡ p → Hands p r.h.due (M.handed f)
      → Ruled M caller N first rear (stepped s 1 n id cs (entered M v f) keeps) × (calls_of M caller first c (M.entries f) ≡ (entered M v f).mine)
  store_by s r id c n cs v f more who at held list grew by fails count Rests is hands =
      let h' = grown r.h more (M.fault f) r.h.due in
      store_as s r id c n cs v f more r.h.due who at held list grew by fails count hands (omega arith)
      (subst (λ (q : BackPhase E). BackFits h' id v.who (with_due q (M.handed f))) (sym is) tt)
      (λ j u apart fits. back_same r.h h' j u.who u.back refl refl refl refl refl fits)
      (back_still M caller N first rear r.h h' refl refl refl refl s (set s.words 1 n) s.homes id v (entered M v f) (ap (λ q. with_due q (M.handed f)) is ∙ sym is) at (get_or-set_other s.words 1 2 n 0 (λ e. omega arith)) refl r.h.writer r.back)
  store_by s r id c n cs v f more who at held list grew by fails count (Writes l k a d) is hands =
      let h' = grown r.h more (M.fault f) (M.handed f) in
      let fits : BackFits r.h id v.who (Writes l k a d) = subst (BackFits r.h id v.who) is (r.each id v at).back in
      let now : with_due v.back (M.handed f) ≡ Writes l k a (M.handed f) = ap (λ q. with_due q (M.handed f)) is in
      store_as s r id c n cs v f more (M.handed f) who at held list grew by fails count refl hands
      (subst (BackFits h' id v.who) (sym now) (fits.0, fits.1, fits.2, fits.3, refl, fits.5))
      (λ j u apart old. back_else r.h h' id j u.who u.back fits.0 apart old)
      (subst (BackTurn M caller N first rear h' (stepped s 1 n id cs (entered M v f) keeps)) (sym fits.0)
      (get_or-set_other s.words 1 2 n 0 (λ e. omega arith) ∙ (subst (BackTurn M caller N first rear r.h s) fits.0 r.back).0, (entered M v f, here s.views id v (entered M v f) at, now ∙ (λ i. Writes (fits.1 i) (fits.2 i) (fits.3 i) (M.handed f)))))

  pub stores_front : (slots id c n : ℕ) (me : TurnMe F B E) (f : F) (more : List E) → me.0.who ≡ Caller c → me.1 ≡ (0, Front f) ∷ rest me.1 → (list : List E) (fail handed : ℕ) → me.0.front ≡ Holds list fail handed
      → M.entries f ≡ list ++ more → Each (λ e. caller e ≡ c) more → (fail ≡ 0) ⊎ (M.fault f ≡ fail) → Hands me.0.back handed (M.handed f) → n ≡ length (M.entries f)
      → Allows (Ruled M caller N first rear) slots id me 1 (λ _. n) (λ _. stored_front M caller me n)
  stores_front slots id c n me f more who has list fail handed holds grew by fails hands count s r deep at small =
      let p = holder_of s r id me.0 list fail handed at holds in
      let mine = caller_fits M caller N first rear r.h id c me.0 (r.each id me.0 at) who in
      let got = store_by s r id c n me.1 me.0 f more who at p.0 (ap kept holds ∙ p.1) (grew ∙ ap (λ (l : List E). l ++ more) p.1) by (subst (λ (k : ℕ). (k ≡ 0) ⊎ (M.fault f ≡ k)) p.2 fails) count me.0.back refl
      (subst (λ (k : ℕ). Hands me.0.back k (M.handed f)) p.3 hands) in (
        entered M me.0 f,
        keeps,
        tt,
        got.0,
        λ g has'.
            let e : f ≡ g = front_is f g (rest me.1) (rest me.1) (sym has ∙ has') in (
              (λ i. (entered M me.0 (e i), me.1)),
              λ o d opened who'.
                  let e' : c ≡ d = cc (who, who') in
                  let e'' : first ≡ o = cc (opened, mine.4.0) in
                  subst (λ (x : F × ℕ). calls_of M caller x.0 x.1 (M.entries f) ≡ (entered M me.0 f).mine) (λ i. (e'' i, e' i)) got.1,
            ),
      )
