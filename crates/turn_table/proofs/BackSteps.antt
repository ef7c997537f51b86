-- The steps on the back turn keep the rule.
use Rattle.std.proofs.Common.{◌≡◌, ◌⊎◌, ℕ, ◌≤◌, ◌==◌, Bool, List, ◌∷◌, set, refl, ap, sym, ◌∙◌, subst, arith, length-set, get_or-set_other, get_or-set_same, eq-eqb, ne_eqb, Option, Some, None, inr, ⊎_elim}
use Rattle.std.specs.Prelude.{slice_index}
use mathlib.Core.Logic.{dite}
use mathlib.Core.Option.{some, none}
use mathlib.Core.List.{IsPrefix}
use native.Mathlib.Decide.{ℕ_discrete}
use lib.ListN.{get_elem?}
use prog.Atomic.{either}
use Rattle.atomic_table.specs.Table.{keeps, takes, gives, stepped, Allows, rest, homes_after, put_back}
use Rattle.atomic_table.proofs.Lists.{set_here, set_else}
use Rattle.turn_table.specs.declared.view.Place.{Place}
use Rattle.turn_table.specs.declared.view.Place.TheVariants.{Back}
use Rattle.turn_table.specs.declared.view.Who.TheVariants.{Caller}
use Rattle.turn_table.specs.declared.view.FrontPhase.{FrontPhase}
use Rattle.turn_table.specs.declared.view.FrontPhase.TheVariants.{Away, Holds}
use Rattle.turn_table.specs.declared.view.BackPhase.TheVariants.{Rests, Writes}
use Rattle.turn_table.specs.declared.view.View.{View}
use Rattle.turn_table.specs.Values.{FrontMeaning, BackMeaning}
use Rattle.turn_table.specs.Views.{writing, resting, met_back, wrote}
use Rattle.turn_table.specs.Rule.{Hidden, IsFailure, FrontFits, BackFits, EndedFits, Fits, BackStands, BackTurn, TurnState, Ruled}
use Rattle.turn_table.specs.Told.{TurnMe, BackBeside, ShowsBack, took_back, stored_back, gave_back}
use Rattle.turn_table.proofs.Lists.{prefix_self, prefix_trans, here, each_map}
use Rattle.turn_table.proofs.Fitting.{or_else_is, failure_back, front_same, back_free, back_else, GoesOn, with_phases, fits_on, on_writer, caller_fits}
use Rattle.turn_table.proofs.Moving.{front_still, counts_else, still_sized, moves, quiet}

-- the back wrote more
abbrev written_on : {E : Type 0} → Hidden E → List E → ℕ → ℕ → Hidden E
written_on h heard written fail = record h { heard = heard; written = written; back_fail = fail }

back_or : {F B : Type 0} → B → List (ℕ × Place F B) → B
back_or d ((k, Back x) ∷ xs) = x
back_or d _ = d

-- one back value lies in the slot that was taken last
back_is : {F B : Type 0} (x y : B) (xs ys : List (ℕ × Place F B)) → ◌≡◌ {A = List (ℕ × Place F B)} ((1, Back x) ∷ xs) ((1, Back y) ∷ ys) → x ≡ y
unfolding back_or
back_is x y xs ys e = ap (back_or x) e

module _ {F B E : Type 0} (M : FrontMeaning F E) (caller : E → ℕ) (N : BackMeaning B E) (first : F) (rear : B) where
  -- what a free turn's value shows
  shows : (h : Hidden E) (id c : ℕ) (v : View F B E) (b : B) → IsPrefix h.heard h.log → h.written ≤ h.due → Fits M caller N first rear h id v → v.who ≡ Caller c → BackStands M caller N first rear h b → ShowsBack N v b
  shows h id c v b heard owed fits who stands = let mine = caller_fits M caller N first rear h id c v fits who in record {
    known = let k = fits.known in let e = stands.1 in omega (arith, k, e);
    owed = let e = stands.1 in let d = stands.3 in omega (arith, owed, e, d);
    kin = λ o is. let e : rear ≡ o = cc (is, mine.4.1) in subst (λ (x : B). N.kin x b) e stands.4;
    beside = beside_is v.front fits.front;
  }
    where
      beside_is : (p : FrontPhase E) → FrontFits h id v.who p → BackBeside p (N.heard b) (N.due b)
      beside_is Away fits = tt
      beside_is (Holds l k n) fits = (fits.3 ∙ sym stands.3, subst (λ (x : List E × List E). IsPrefix x.0 x.1) (λ i. (sym stands.0 i, sym fits.1 i)) heard)

  turn_free : (s : TurnState F B E) (r : Ruled M caller N first rear s) (o : Option ℕ) → r.h.writer ≡ o → slice_index s.words 2 ≡ 0 → (r.h.writer ≡ None) × ((b : B) × (get_elem? s.homes 1 ≡ some (some (Back b))) × BackStands M caller N first rear r.h b)
  turn_free s r None is z = (is, (subst (BackTurn M caller N first rear r.h s) is r.back).1)
  turn_free s r (Some i) is z = let t = (subst (BackTurn M caller N first rear r.h s) is r.back).0 in absurd (omega (arith, t, z))

  -- a free turn is taken
  hit : (s : TurnState F B E) (r : Ruled M caller N first rear s) (id c : ℕ) (cs : List (ℕ × Place F B)) (v : View F B E) (b : B) → v.who ≡ Caller c → get_elem? s.views id ≡ some v → r.h.writer ≡ None → BackStands M caller N first rear r.h b
      → Ruled M caller N first rear (stepped s 2 1 id cs (writing N v b) (takes 1 (Back b)))
  hit s r id c cs v b who at free stands =
      let w = writing N v b in
      let h' : Hidden E = record r.h { writer = Some id } in
      let on = on_writer M caller N first rear r.h (Some id) in
      let was = r.each id v at in
      let sized = r.sized in
      moves M caller N first rear s r h' id w (set s.words 2 1) (set s.homes 1 none) (still_sized M caller N first rear s r 2 1 1 none)
      (front_still M caller N first rear r.h h' refl refl refl s (set s.words 2 1) (set s.homes 1 none) id v w refl at (get_or-set_other s.words 2 0 1 0 (λ e. omega arith)) (set_else s.homes 1 0 none (λ e. omega arith)) r.h.holder r.front)
      (get_or-set_same s.words 2 1 0 (omega (arith, sized)), (w, here s.views id v w at, λ i. Writes (stands.0 i) (stands.1 i) (stands.2 i) (stands.3 i)))
      (counts_else M caller N first rear h' s.words 2 1 (λ e. omega arith) (λ e. omega arith) r.counts)
      r.sound
      (with_phases M caller N first rear r.h h' id v v.front w.back on was was.who (front_same r.h h' id v.who v.front refl refl refl refl was.front) (refl, stands.0, stands.1, stands.2, stands.3, (c, who)))
      (λ j u apart fits. fits_on M caller N first rear r.h h' j u on fits fits.who (front_same r.h h' j u.who u.front refl refl refl refl fits.front) (back_free r.h h' j u.who u.back free fits.back))

  pub takes_back : (slots id c : ℕ) (me : TurnMe F B E) → me.0.who ≡ Caller c → Allows (Ruled M caller N first rear) slots id me 2 (λ n. either (n == 0) 1 n) (took_back N me)
  takes_back slots id c me who s r deep at small = let n : ℕ = slice_index s.words 2 in let was = r.each id me.0 at in
      dite (ℕ_discrete n 0)
      (λ z. let t = turn_free s r r.h.writer refl z in let b = t.1.0 in let w = writing N me.0 b in (
        w,
        takes 1 (Back b),
        t.1.1,
        subst (λ (k : Bool). Ruled M caller N first rear (stepped s 2 (either k 1 n) id me.1 w (takes 1 (Back b)))) (sym (eq-eqb n 0 z)) (hit s r id c me.1 me.0 b who at t.0 t.1.2),
        ((λ _. (b, refl, refl, shows r.h id c me.0 b r.sound.1 r.sound.2 was who t.1.2)), (λ nz. absurd (nz z))),
      ))
      (λ nz. let w = met_back me.0 in (
        w,
        keeps,
        tt,
        subst (λ (k : Bool). Ruled M caller N first rear (stepped s 2 (either k 1 n) id me.1 w keeps)) (sym (ne_eqb n 0 nz))
            (quiet M caller N first rear s r 2 id me.0 w at refl refl record { seen = was.seen; heard_of = was.heard_of; counted = was.counted; known = was.known; failed = was.failed; who = was.who; front = was.front; back = was.back; ended = was.ended }),
        ((λ z. absurd (nz z)), (λ _. refl)),
      ))

  -- what a seat that holds the turn keeps
  writer_of : (s : TurnState F B E) (r : Ruled M caller N first rear s) (id : ℕ) (v : View F B E) (heard : List E) (written fail due : ℕ) → get_elem? s.views id ≡ some v → v.back ≡ Writes heard written fail due → BackFits r.h id v.who (Writes heard written fail due)
  writer_of s r id v heard written fail due at holds = subst (BackFits r.h id v.who) holds (r.each id v at).back

  pub gives_back : (slots id : ℕ) (me : TurnMe F B E) (b : B) → me.1 ≡ (1, Back b) ∷ rest me.1 → (heard : List E) (written fail due : ℕ) → me.0.back ≡ Writes heard written fail due
      → N.heard b ≡ heard → N.written b ≡ written → N.fault b ≡ fail → N.due b ≡ due → N.kin rear b
      → Allows (Ruled M caller N first rear) slots id me 2 (λ _. 0) (λ _. gave_back me 0)
  gives_back slots id me b has heard written fail due holds same number failed owed kin s r deep at small =
      let p = writer_of s r id me.0 heard written fail due at holds in
      let w = resting me.0 in
      let h' : Hidden E = record r.h { writer = None } in
      let on = on_writer M caller N first rear r.h None in
      let was = r.each id me.0 at in
      let sized = r.sized in
      let is : homes_after s.homes me.1 gives ≡ set s.homes 1 (some (Back b)) = ap (λ c. put_back s.homes c) has in (
        w,
        gives,
        tt,
        subst (λ (hs : List (mathlib.Core.Option.Option (Place F B))). Ruled M caller N first rear record { words = set s.words 2 0; homes = hs; views = set s.views id w }) (sym is)
            (moves M caller N first rear s r h' id w (set s.words 2 0) (set s.homes 1 (some (Back b))) (still_sized M caller N first rear s r 2 0 1 (some (Back b)))
            (front_still M caller N first rear r.h h' refl refl refl s (set s.words 2 0) (set s.homes 1 (some (Back b))) id me.0 w refl at (get_or-set_other s.words 2 0 0 0 (λ e. omega arith)) (set_else s.homes 1 0 (some (Back b)) (λ e. omega arith)) r.h.holder r.front)
            (get_or-set_same s.words 2 0 0 (omega (arith, sized)), (b, set_here s.homes 1 (some (Back b)) (omega (arith, sized)), (same ∙ p.1, number ∙ p.2, failed ∙ p.3, owed ∙ p.4, kin)))
            (counts_else M caller N first rear h' s.words 2 0 (λ e. omega arith) (λ e. omega arith) r.counts)
            r.sound
            (with_phases M caller N first rear r.h h' id me.0 me.0.front Rests on was was.who (front_same r.h h' id me.0.who me.0.front refl refl refl refl was.front) tt)
            (λ j u apart fits. fits_on M caller N first rear r.h h' j u on fits fits.who (front_same r.h h' j u.who u.front refl refl refl refl fits.front) (back_else r.h h' id j u.who u.back p.0 apart fits.back))),
        refl,
      )

  -- the back wrote more: what was known stays true
  on_written : (h : Hidden E) (heard : List E) (written fail : ℕ) → h.written ≤ written → (h.back_fail ≡ 0) ⊎ (fail ≡ h.back_fail) → GoesOn M caller N first rear h (written_on h heard written fail)
  on_written h heard written fail more fails = record {
    log = prefix_self h.log;
    written = more;
    failed = λ n was. failure_back h (written_on h heard written fail) n refl fails was;
    ended = λ e t. (t.0, t.1, t.2, t.3, (let k = t.4 in omega (arith, k, more)), failure_back h (written_on h heard written fail) e.failed refl fails t.5);
  }

  -- the number of written batches is stored
  store_as : (s : TurnState F B E) (r : Ruled M caller N first rear s) (id c n : ℕ) (cs : List (ℕ × Place F B)) (v : View F B E) (b : B) → v.who ≡ Caller c → get_elem? s.views id ≡ some v → r.h.writer ≡ Some id
      → IsPrefix (N.heard b) r.h.log → r.h.written ≤ N.written b → N.written b ≤ r.h.due → N.due b ≡ r.h.due → (r.h.back_fail ≡ 0) ⊎ (N.fault b ≡ r.h.back_fail) → n ≡ N.written b
      → Ruled M caller N first rear (stepped s 3 n id cs (wrote N v b) keeps)
  store_as s r id c n cs v b who at held heard more owed due fails count =
      let w = wrote N v b in
      let h' = written_on r.h (N.heard b) (N.written b) (N.fault b) in
      let on = on_written r.h (N.heard b) (N.written b) (N.fault b) more fails in
      let was = r.each id v at in
      let sized = r.sized in
      moves M caller N first rear s r h' id w (set s.words 3 n) s.homes (length-set s.words 3 n ∙ r.sized.0, r.sized.1)
      (front_still M caller N first rear r.h h' refl refl refl s (set s.words 3 n) s.homes id v w refl at (get_or-set_other s.words 3 0 n 0 (λ e. omega arith)) refl r.h.holder r.front)
      (subst (BackTurn M caller N first rear h' (stepped s 3 n id cs w keeps)) (sym held)
      (get_or-set_other s.words 3 2 n 0 (λ e. omega arith) ∙ (subst (BackTurn M caller N first rear r.h s) held r.back).0, (w, here s.views id v w at, λ i. Writes (N.heard b) (N.written b) (N.fault b) (due i))))
      (get_or-set_other s.words 3 1 n 0 (λ e. omega arith) ∙ r.counts.0, get_or-set_same s.words 3 n 0 (omega (arith, sized)) ∙ count)
      (r.sound.0, heard, owed, r.sound.3)
      record {
        seen = was.seen;
        heard_of = was.heard_of;
        counted = was.counted;
        known = omega arith;
        failed = or_else_is (IsFailure h') (N.fault b) v.failed (inr (inr refl)) (on.failed v.failed was.failed);
        who = was.who;
        front = front_same r.h h' id v.who v.front refl refl refl refl was.front;
        back = (held, refl, refl, refl, due, (c, who));
        ended = each_map (EndedFits M caller N first rear r.h) (EndedFits M caller N first rear h') v.ended on.ended was.ended;
      }
      (λ j u apart fits. fits_on M caller N first rear r.h h' j u on fits fits.who (front_same r.h h' j u.who u.front refl refl refl refl fits.front) (back_else r.h h' id j u.who u.back held apart fits.back))

  pub stores_back : (slots id n : ℕ) (me : TurnMe F B E) (b : B) → me.1 ≡ (1, Back b) ∷ rest me.1 → (heard : List E) (written fail due : ℕ) → me.0.back ≡ Writes heard written fail due
      → IsPrefix (N.heard b) me.0.seen ⊎ (N.heard b ≡ heard) → written ≤ N.written b → N.written b ≤ N.due b → N.due b ≡ due → (fail ≡ 0) ⊎ (N.fault b ≡ fail) → n ≡ N.written b
      → Allows (Ruled M caller N first rear) slots id me 3 (λ _. n) (λ _. stored_back N me n)
  stores_back slots id n me b has heard written fail due holds seen more owed same fails count s r deep at small =
      let p = writer_of s r id me.0 heard written fail due at holds in
      let was = r.each id me.0 at in
      let caller = p.5 in
      let begins : IsPrefix (N.heard b) r.h.log = ⊎_elim (λ (t : IsPrefix (N.heard b) me.0.seen). prefix_trans (N.heard b) me.0.seen r.h.log t was.seen) (λ (t : N.heard b ≡ heard). subst (λ (l : List E). IsPrefix l r.h.log) (sym (t ∙ p.1)) r.sound.1) seen in (
        wrote N me.0 b,
        keeps,
        tt,
        store_as s r id caller.0 n me.1 me.0 b caller.1 at p.0 begins (let e = p.2 in omega (arith, e, more)) (let e = p.4 in omega (arith, e, same, owed)) (same ∙ p.4) (subst (λ (k : ℕ). (k ≡ 0) ⊎ (N.fault b ≡ k)) p.3 fails) count,
        λ g has'. let e : b ≡ g = back_is b g (rest me.1) (rest me.1) (sym has ∙ has') in (λ i. (wrote N me.0 (e i), me.1)),
      )
