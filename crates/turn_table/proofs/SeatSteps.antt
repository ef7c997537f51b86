-- Loads, splits and joins keep the rule.
use Rattle.std.proofs.Common.{◌≡◌, ◌≢◌, ◌⊎◌, ℕ, ◌+◌, ◌≤◌, ◌==◌, ◌||◌, Bool, false, List, [], ◌∷◌, ◌++◌, length, set, refl, ap, sym, ◌∙◌, subst, arith, eq-eqb, ne_eqb, Option, None, inl, inr, ⊎_elim}
use Rattle.std.specs.Prelude.{slice_index}
use Rattle.std.proofs.Math.Bool.{or-true}
use mathlib.Core.Option.{some}
use lib.ListN.{get_elem?}
use prog.Atomic.{either}
use Rattle.atomic_table.specs.Table.{keeps, Allows, Splits, Joins}
use Rattle.atomic_table.proofs.Lists.{at_set, set_again}
use Rattle.turn_table.specs.declared.view.Who.{Who}
use Rattle.turn_table.specs.declared.view.Who.TheVariants.{First, Caller, Note, Spent}
use Rattle.turn_table.specs.declared.view.FrontPhase.{FrontPhase}
use Rattle.turn_table.specs.declared.view.FrontPhase.TheVariants.{Away, Holds}
use Rattle.turn_table.specs.declared.view.BackPhase.{BackPhase}
use Rattle.turn_table.specs.declared.view.BackPhase.TheVariants.{Rests, Writes}
use Rattle.turn_table.specs.declared.view.View.{View}
use Rattle.turn_table.specs.Values.{Each, FrontMeaning, BackMeaning}
use Rattle.turn_table.specs.Views.{given_of, one_more, told, informed, hears, gives_seat, next_caller, noted, spent_view, ended_of, joined}
use Rattle.turn_table.specs.Rule.{Hidden, IsOfThese, FrontFits, BackFits, WhoFits, EndedFits, Fits, TurnState, Ruled}
use Rattle.turn_table.specs.Told.{TurnMe, looked_at_calls, looked_at_durable, listened, IsPart, CanSplit}
use Rattle.turn_table.proofs.Lists.{prefix_self, prefix_none, prefix_length, prefix_longer, longer_prefix, longer_second, each_map, at_end}
use Rattle.turn_table.proofs.Fitting.{front_same, back_same, GoesOn, fits_on, caller_fits, spent_fits, joined_fits}
use Rattle.turn_table.proofs.Moving.{stay, front_still, back_still, front_longer, back_longer, quiet}

-- one caller more, whose seat is `fresh`
abbrev giving : {E : Type 0} → Hidden E → ℕ → Hidden E
giving h fresh = record h { given = h.given + 1; seat = λ c. either (c == h.given) fresh (h.seat c) }

-- the seat of the caller c ended
abbrev ending : {E : Type 0} → Hidden E → ℕ → Hidden E
ending h c = record h { over = λ d. (d == c) || h.over d }

module _ {F B E : Type 0} (M : FrontMeaning F E) (caller : E → ℕ) (N : BackMeaning B E) (first : F) (rear : B) where
  pub looks_at_calls : (slots id : ℕ) (me : TurnMe F B E) → Allows (Ruled M caller N first rear) slots id me 1 (λ n. n) (looked_at_calls me)
  looks_at_calls slots id me s r deep at small =
      let n : ℕ = slice_index s.words 1 in
      let was = r.each id me.0 at in
      let count : n ≡ length r.h.log = r.counts.0 in (
        told me.0 n,
        keeps,
        tt,
        quiet M caller N first rear s r 1 id me.0 (told me.0 n) at refl refl record { seen = was.seen; heard_of = was.heard_of; counted = omega (arith, count); known = was.known; failed = was.failed; who = was.who; front = was.front; back = was.back; ended = was.ended },
        (refl, (let le = was.counted in omega (arith, le, count)), let le = prefix_length me.0.seen r.h.log was.seen in omega (arith, le, count)),
      )

  pub looks_at_durable : (slots id : ℕ) (me : TurnMe F B E) → Allows (Ruled M caller N first rear) slots id me 3 (λ n. n) (looked_at_durable me)
  looks_at_durable slots id me s r deep at small =
      let n : ℕ = slice_index s.words 3 in
      let was = r.each id me.0 at in
      let count : n ≡ r.h.written = r.counts.1 in (
        informed me.0 n,
        keeps,
        tt,
        quiet M caller N first rear s r 3 id me.0 (informed me.0 n) at refl refl record { seen = was.seen; heard_of = was.heard_of; counted = was.counted; known = omega (arith, count); failed = was.failed; who = was.who; front = was.front; back = was.back; ended = was.ended },
        (refl, let le = was.known in omega (arith, le, count)),
      )

  pub listens : (slots id : ℕ) (me : TurnMe F B E) → Allows (Ruled M caller N first rear) slots id me 1 (λ n. n) (listened me)
  listens slots id me s r deep at small =
      let was = r.each id me.0 at in (
        hears me.0,
        keeps,
        tt,
        quiet M caller N first rear s r 1 id me.0 (hears me.0) at refl refl record {
          seen = longer_prefix me.0.seen me.0.heard_of r.h.log was.seen was.heard_of;
          heard_of = prefix_none r.h.log;
          counted = was.counted;
          known = was.known;
          failed = was.failed;
          who = was.who;
          front = was.front;
          back = was.back;
          ended = was.ended;
        },
        (refl, prefix_longer me.0.seen me.0.heard_of, longer_second me.0.seen me.0.heard_of r.h.log was.seen was.heard_of),
      )

  on_giving : (h : Hidden E) (fresh : ℕ) → GoesOn M caller N first rear h (giving h fresh)
  on_giving h fresh = record { log = prefix_self h.log; written = omega arith; failed = λ n t. t; ended = λ e t. ((let lt = t.0 in omega (arith, lt)), t.1, t.2, t.3, t.4, t.5) }

  who_given : (h : Hidden E) (fresh j : ℕ) (o : Option F) (q : Option B) (mine : List E) (who : Who) → j ≢ 0 → WhoFits M caller N first rear h j o q mine who → WhoFits M caller N first rear (giving h fresh) j o q mine who
  who_given h fresh j o q mine (First n) apart fits = absurd (apart fits.0)
  who_given h fresh j o q mine (Caller d) apart fits =
      let ne : d ≢ h.given = λ e. (let lt = fits.0 in omega (arith, lt, e)) in
      ((let lt = fits.0 in omega (arith, lt)), fits.1, ap (λ (b : Bool). either b fresh (h.seat d)) (ne_eqb d h.given ne) ∙ fits.2, fits.3, fits.4)
  who_given h fresh j o q mine Note apart fits = fits
  who_given h fresh j o q mine Spent apart fits = fits

  -- the first seat holds no turn
  first_front : (h h' : Hidden E) (id n : ℕ) (p : FrontPhase E) → FrontFits h id (First n) p → (x : Who) → FrontFits h' id x p
  first_front h h' id n Away fits x = tt
  first_front h h' id n (Holds l f k) fits x = absurd (cc (fits.4.1))

  first_back : (h h' : Hidden E) (id n : ℕ) (p : BackPhase E) → BackFits h id (First n) p → (x : Who) → BackFits h' id x p
  first_back h h' id n Rests fits x = tt
  first_back h h' id n (Writes l k f d) fits x = absurd (cc (fits.5.1))

  pub splits_caller : (id n : ℕ) (v : View F B E) → v.who ≡ First n → Splits (Ruled M caller N first rear) id v (gives_seat v) (next_caller v)
  splits_caller id n v who s r at =
      let was = r.each id v at in
      let mine : WhoFits M caller N first rear r.h id v.opening v.rear v.mine (First n) = subst (WhoFits M caller N first rear r.h id v.opening v.rear v.mine) who was.who in
      let fresh : ℕ = length (set s.views id (gives_seat v)) in
      let h' = giving r.h fresh in
      let on = on_giving r.h fresh in
      let more : one_more v.who ≡ First (r.h.given + 1) = ap one_more who ∙ ap (λ (k : ℕ). First (k + 1)) mine.1 in
      let next : given_of v.who ≡ r.h.given = ap given_of who ∙ mine.1 in
      let fresh_seat : h'.seat r.h.given ≡ fresh = ap (λ (b : Bool). either b fresh (r.h.seat r.h.given)) (eq-eqb r.h.given r.h.given refl) in
      let none_yet = r.sound.3 r.h.given (omega arith) in
      let old : Fits M caller N first rear h' id (gives_seat v) = record {
        seen = was.seen;
        heard_of = was.heard_of;
        counted = was.counted;
        known = was.known;
        failed = was.failed;
        who = subst (WhoFits M caller N first rear h' id v.opening v.rear v.mine) (sym more) (mine.0, refl, mine.2);
        front = first_front r.h h' id n v.front (subst (λ (x : Who). FrontFits r.h id x v.front) who was.front) (one_more v.who);
        back = first_back r.h h' id n v.back (subst (λ (x : Who). BackFits r.h id x v.back) who was.back) (one_more v.who);
        ended = each_map (EndedFits M caller N first rear r.h) (EndedFits M caller N first rear h') v.ended on.ended was.ended;
      } in
      let new : Fits M caller N first rear h' fresh (next_caller v) = record {
        seen = was.seen;
        heard_of = prefix_none r.h.log;
        counted = was.counted;
        known = was.known;
        failed = was.failed;
        who = subst (λ (c : ℕ). WhoFits M caller N first rear h' fresh v.opening v.rear [] (Caller c)) (sym next) (omega arith, none_yet.1, fresh_seat, none_yet.0, mine.2);
        front = tt;
        back = tt;
        ended = tt;
      } in
      let s' : TurnState F B E = record { words = s.words; homes = s.homes; views = set s.views id (gives_seat v) } in
      record {
        h = h';
        sized = r.sized;
        front = front_longer M caller N first rear h' s' (next_caller v) r.h.holder (front_still M caller N first rear r.h h' refl refl refl s s.words s.homes id v (gives_seat v) refl at refl refl r.h.holder r.front);
        back = back_longer M caller N first rear h' s' (next_caller v) r.h.writer (back_still M caller N first rear r.h h' refl refl refl refl s s.words s.homes id v (gives_seat v) refl at refl refl r.h.writer r.back);
        counts = r.counts;
        sound = (r.sound.0, r.sound.1, r.sound.2, λ c le. r.sound.3 c (omega (arith, le)));
        each = λ j u e. ⊎_elim
            (λ (there : get_elem? (set s.views id (gives_seat v)) j ≡ some u). stay M caller N first rear h' s.views id (gives_seat v) old (λ i x apart at'. let fits = r.each i x at' in
            fits_on M caller N first rear r.h h' i x on fits (who_given r.h fresh i x.opening x.rear x.mine x.who (λ z. apart (z ∙ sym mine.0)) fits.who) (front_same r.h h' i x.who x.front refl refl refl refl fits.front) (back_same r.h h' i x.who x.back refl refl refl refl refl fits.back)) j u there)
            (λ (t : (next_caller v ≡ u) × (j ≡ fresh)). subst (λ (x : ℕ × View F B E). Fits M caller N first rear h' x.0 x.1) (λ i. (sym t.1 i, t.0 i)) new)
            (at_end (set s.views id (gives_seat v)) (next_caller v) u j e);
      }

  -- the view of a seat that isn't spent keeps the values that the turns began with
  live_is : (h : Hidden E) (id : ℕ) (o : Option F) (q : Option B) (mine : List E) (who : Who) → CanSplit None who → WhoFits M caller N first rear h id o q mine who → IsOfThese M caller N first rear o q
  live_is h id o q mine (First n) live fits = fits.2
  live_is h id o q mine (Caller c) live fits = fits.4
  live_is h id o q mine Note live fits = fits
  live_is h id o q mine Spent live fits = absurd live

  pub splits_note : (id : ℕ) (v : View F B E) → CanSplit None v.who → Splits (Ruled M caller N first rear) id v v (noted v)
  splits_note id v live s r at =
      let was = r.each id v at in
      let same : set s.views id v ≡ s.views = set_again s.views id v at in
      let new : (j : ℕ) → Fits M caller N first rear r.h j (noted v) = λ j. record { seen = was.seen; heard_of = prefix_none r.h.log; counted = was.counted; known = was.known; failed = was.failed; who = live_is r.h id v.opening v.rear v.mine v.who live was.who; front = tt; back = tt; ended = tt } in
      subst (λ (vs : List (View F B E)). Ruled M caller N first rear record { words = s.words; homes = s.homes; views = vs ++ noted v ∷ [] }) (sym same) record {
        h = r.h;
        sized = r.sized;
        front = front_longer M caller N first rear r.h s (noted v) r.h.holder r.front;
        back = back_longer M caller N first rear r.h s (noted v) r.h.writer r.back;
        counts = r.counts;
        sound = r.sound;
        each = λ j u e. ⊎_elim (λ (there : get_elem? s.views j ≡ some u). r.each j u there) (λ (t : (noted v ≡ u) × (j ≡ length s.views)). subst (Fits M caller N first rear r.h j) t.0 (new j)) (at_end s.views (noted v) u j e);
      }

  on_ending : (h : Hidden E) (c : ℕ) → GoesOn M caller N first rear h (ending h c)
  on_ending h c = record { log = prefix_self h.log; written = omega arith; failed = λ n t. t; ended = λ e t. (t.0, ap (λ (b : Bool). (e.caller == c) || b) t.1 ∙ or-true (e.caller == c), t.2, t.3, t.4, t.5) }

  who_over : (h : Hidden E) (c other j : ℕ) (o : Option F) (q : Option B) (mine : List E) (who : Who) → h.seat c ≡ other → j ≢ other → WhoFits M caller N first rear h j o q mine who → WhoFits M caller N first rear (ending h c) j o q mine who
  who_over h c other j o q mine (First n) seat apart fits = fits
  who_over h c other j o q mine (Caller d) seat apart fits =
      let ne : d ≢ c = λ e. apart (sym fits.2 ∙ (ap h.seat e ∙ seat)) in
      (fits.0, ap (λ (b : Bool). b || h.over d) (ne_eqb d c ne) ∙ fits.1, fits.2, fits.3, fits.4)
  who_over h c other j o q mine Note seat apart fits = fits
  who_over h c other j o q mine Spent seat apart fits = fits

  over_fits : (h : Hidden E) (c other j : ℕ) (u : View F B E) → h.seat c ≡ other → j ≢ other → Fits M caller N first rear h j u → Fits M caller N first rear (ending h c) j u
  over_fits h c other j u seat apart fits = fits_on M caller N first rear h (ending h c) j u (on_ending h c) fits (who_over h c other j u.opening u.rear u.mine u.who seat apart fits.who)
      (front_same h (ending h c) j u.who u.front refl refl refl refl fits.front) (back_same h (ending h c) j u.who u.back refl refl refl refl refl fits.back)

  -- the rule over two seats that become one, where the other seats' fits are given
  joins_as : (id other : ℕ) (v w : View F B E) (over : ℕ → Bool) (s : TurnState F B E) (r : Ruled M caller N first rear s) → ((c : ℕ) → r.h.given ≤ c → over c ≡ false) → w.front ≡ Away → w.back ≡ Rests → get_elem? s.views id ≡ some v → ¬ (other ≡ id)
      → get_elem? (set s.views id (joined v w)) other ≡ some w
      → ((j : ℕ) (u : View F B E) → j ≢ other → Fits M caller N first rear r.h j u → Fits M caller N first rear (record r.h { over = over }) j u) → Fits M caller N first rear (record r.h { over = over }) id (joined v w)
      → Ruled M caller N first rear record { words = s.words; homes = s.homes; views = set (set s.views id (joined v w)) other spent_view }
  joins_as id other v w over s r unused away rests at apart there others both =
      let h' : Hidden E = record r.h { over = over } in
      let s' : TurnState F B E = record { words = s.words; homes = s.homes; views = set s.views id (joined v w) } in
      record {
        h = h';
        sized = r.sized;
        front = front_still M caller N first rear h' h' refl refl refl s' s.words s.homes other w spent_view (sym away) there refl refl r.h.holder (front_still M caller N first rear r.h h' refl refl refl s s.words s.homes id v (joined v w) refl at refl refl r.h.holder r.front);
        back = back_still M caller N first rear h' h' refl refl refl refl s' s.words s.homes other w spent_view (sym rests) there refl refl r.h.writer (back_still M caller N first rear r.h h' refl refl refl refl s s.words s.homes id v (joined v w) refl at refl refl r.h.writer r.back);
        counts = r.counts;
        sound = (r.sound.0, r.sound.1, r.sound.2, λ c le. ((r.sound.3 c le).0, unused c le));
        each = stay M caller N first rear h' (set s.views id (joined v w)) other spent_view (spent_fits M caller N first rear h' other) (λ j u ne e. stay_else j u ne (at_set s.views id j (joined v w) u e));
      }
    where
      stay_else : (j : ℕ) (u : View F B E) → j ≢ other → ((j ≡ id) × (joined v w ≡ u)) ⊎ ((j ≢ id) × (get_elem? s.views j ≡ some u)) → Fits M caller N first rear (record r.h { over = over }) j u
      stay_else j u ne (inl t) = subst (λ (x : ℕ × View F B E). Fits M caller N first rear (record r.h { over = over }) x.0 x.1) (λ i. (sym t.0 i, t.1 i)) both
      stay_else j u ne (inr t) = others j u ne (r.each j u t.1)

  joins_who : (id other : ℕ) (v w : View F B E) (s : TurnState F B E) (r : Ruled M caller N first rear s) → w.front ≡ Away → w.back ≡ Rests → get_elem? s.views id ≡ some v → ¬ (other ≡ id) → get_elem? (set s.views id (joined v w)) other ≡ some w
      → Fits M caller N first rear r.h id v → Fits M caller N first rear r.h other w → (who : Who) → w.who ≡ who → IsPart who
      → Ruled M caller N first rear record { words = s.words; homes = s.homes; views = set (set s.views id (joined v w)) other spent_view }
  joins_who id other v w s r away rests at apart there fits also (First n) is part = absurd part
  joins_who id other v w s r away rests at apart there fits also (Caller c) is part =
      let mine = caller_fits M caller N first rear r.h other c w also is in
      let h' = ending r.h c in
      let kept : Each (EndedFits M caller N first rear h') (ended_of w.who w) = subst (λ (x : Who). Each (EndedFits M caller N first rear h') (ended_of x w)) (sym is)
      ((mine.0, ap (λ (b : Bool). b || r.h.over c) (eq-eqb c c refl), mine.3, also.seen, also.known, also.failed), each_map (EndedFits M caller N first rear r.h) (EndedFits M caller N first rear h') w.ended (on_ending r.h c).ended also.ended) in
      joins_as id other v w h'.over s r (λ d le. ap (λ (b : Bool). b || r.h.over d) (ne_eqb d c (λ e. (let lt = mine.0 in omega (arith, lt, le, e)))) ∙ (r.sound.3 d le).1) away rests at apart there
      (λ j u ne t. over_fits r.h c other j u mine.2 ne t)
      (joined_fits M caller N first rear h' id v w (over_fits r.h c other id v mine.2 (λ e. apart (sym e)) fits) also.seen also.counted also.known also.failed kept)
  joins_who id other v w s r away rests at apart there fits also Note is part =
      joins_as id other v w r.h.over s r (λ d le. (r.sound.3 d le).1) away rests at apart there (λ j u ne t. t)
      (joined_fits M caller N first rear r.h id v w fits also.seen also.counted also.known also.failed (subst (λ (x : Who). Each (EndedFits M caller N first rear r.h) (ended_of x w)) (sym is) also.ended))
  joins_who id other v w s r away rests at apart there fits also Spent is part = absurd part

  pub joins_seat : (id other : ℕ) (v w : View F B E) → w.front ≡ Away → w.back ≡ Rests → IsPart w.who → Joins (Ruled M caller N first rear) id v other w (joined v w) spent_view
  joins_seat id other v w away rests part s r at apart there =
      joins_who id other v w s r away rests at apart there (r.each id v at) (r.each other w (was_there (at_set s.views id other (joined v w) w there))) w.who refl part
    where
      was_there : ((other ≡ id) × (joined v w ≡ w)) ⊎ ((other ≢ id) × (get_elem? s.views other ≡ some w)) → get_elem? s.views other ≡ some w
      was_there (inl t) = absurd (apart t.0)
      was_there (inr t) = t.1
