-- What a view knows, where what the rule knows changes.
use Rattle.std.proofs.Common.{◌≡◌, ◌≢◌, ◌⊎◌, ℕ, ◌≤◌, Bool, length, refl, ap, sym, ◌∙◌, subst, arith, ne_eqb, Option, Some, None, inl, inr, ⊎_elim}
use mathlib.Core.Logic.{dite}
use mathlib.Core.List.{IsPrefix}
use native.Mathlib.Decide.{ℕ_discrete}
use prog.Atomic.{either}
use Rattle.turn_table.specs.declared.view.Who.{Who}
use Rattle.turn_table.specs.declared.view.Who.TheVariants.{Caller}
use Rattle.turn_table.specs.declared.view.FrontPhase.{FrontPhase}
use Rattle.turn_table.specs.declared.view.FrontPhase.TheVariants.{Away, Holds}
use Rattle.turn_table.specs.declared.view.BackPhase.{BackPhase}
use Rattle.turn_table.specs.declared.view.BackPhase.TheVariants.{Rests, Writes}
use Rattle.turn_table.specs.declared.view.Ended.{Ended}
use Rattle.turn_table.specs.declared.view.View.{View}
use Rattle.turn_table.specs.Values.{Each, FrontMeaning, BackMeaning, or_else}
use Rattle.turn_table.specs.Views.{spent_view, ended_of, joined}
use Rattle.turn_table.specs.Rule.{Hidden, IsFailure, FrontFits, BackFits, WhoFits, EndedFits, Fits}
use Rattle.turn_table.proofs.Lists.{prefix_self, prefix_none, prefix_trans, prefix_length, each_append, each_map}

pub or_else_zero : (m n : ℕ) → m ≡ 0 → or_else m n ≡ n
or_else_zero m n z = ap (λ k. or_else k n) z

pub or_else_other : (m n : ℕ) → m ≢ 0 → or_else m n ≡ m
or_else_other m n nz = ap (λ (b : Bool). either b n m) (ne_eqb m 0 nz)

-- one of two numbers, or another one
pub or_else_is : (P : ℕ → Type 0) (m n : ℕ) → P m → P n → P (or_else m n)
or_else_is P m n a b = dite (ℕ_discrete m 0) (λ z. subst P (sym (or_else_zero m n z)) b) (λ nz. subst P (sym (or_else_other m n nz)) a)

module _ {E : Type 0} (h h' : Hidden E) where
  -- the failed number of one value became another, or stays
  pub failure_front : (n : ℕ) → (h.fail ≡ 0) ⊎ (h'.fail ≡ h.fail) → h'.back_fail ≡ h.back_fail → IsFailure h n → IsFailure h' n
  failure_front n went same was = ⊎_elim (λ z. inl z) (λ t. ⊎_elim (λ (y : n ≡ h.fail). ⊎_elim (λ (z : h.fail ≡ 0). inl (y ∙ z)) (λ (e : h'.fail ≡ h.fail). inr (inl (y ∙ sym e))) went) (λ (y : n ≡ h.back_fail). inr (inr (y ∙ sym same))) t) was

  pub failure_back : (n : ℕ) → h'.fail ≡ h.fail → (h.back_fail ≡ 0) ⊎ (h'.back_fail ≡ h.back_fail) → IsFailure h n → IsFailure h' n
  failure_back n same went was = ⊎_elim (λ z. inl z) (λ t. ⊎_elim (λ (y : n ≡ h.fail). inr (inl (y ∙ sym same))) (λ (y : n ≡ h.back_fail). ⊎_elim (λ (z : h.back_fail ≡ 0). inl (y ∙ z)) (λ (e : h'.back_fail ≡ h.back_fail). inr (inr (y ∙ sym e))) went) t) was

  -- a seat that holds no turn fits whoever holds it
  pub front_free : (j : ℕ) (who : Who) (p : FrontPhase E) → h.holder ≡ None → FrontFits h j who p → FrontFits h' j who p
  front_free j who Away free fits = tt
  front_free j who (Holds l f n) free fits = absurd (cc (free, fits.0))

  pub front_else : (id j : ℕ) (who : Who) (p : FrontPhase E) → h.holder ≡ Some id → j ≢ id → FrontFits h j who p → FrontFits h' j who p
  front_else id j who Away held apart fits = tt
  front_else id j who (Holds l f n) held apart fits = let same : j ≡ id = cc (held, fits.0) in absurd (apart same)

  pub front_same : (j : ℕ) (who : Who) (p : FrontPhase E) → h'.holder ≡ h.holder → h'.log ≡ h.log → h'.fail ≡ h.fail → h'.due ≡ h.due → FrontFits h j who p → FrontFits h' j who p
  front_same j who Away a b c d fits = tt
  front_same j who (Holds l f n) a b c d fits = (a ∙ fits.0, fits.1 ∙ sym b, fits.2 ∙ sym c, fits.3 ∙ sym d, fits.4)

  pub back_free : (j : ℕ) (who : Who) (p : BackPhase E) → h.writer ≡ None → BackFits h j who p → BackFits h' j who p
  back_free j who Rests free fits = tt
  back_free j who (Writes l n f d) free fits = absurd (cc (free, fits.0))

  pub back_else : (id j : ℕ) (who : Who) (p : BackPhase E) → h.writer ≡ Some id → j ≢ id → BackFits h j who p → BackFits h' j who p
  back_else id j who Rests held apart fits = tt
  back_else id j who (Writes l n f d) held apart fits = let same : j ≡ id = cc (held, fits.0) in absurd (apart same)

  pub back_same : (j : ℕ) (who : Who) (p : BackPhase E) → h'.writer ≡ h.writer → h'.heard ≡ h.heard → h'.written ≡ h.written → h'.back_fail ≡ h.back_fail → h'.due ≡ h.due → BackFits h j who p → BackFits h' j who p
  back_same j who Rests a b c d e fits = tt
  back_same j who (Writes l n f k) a b c d e fits = (a ∙ fits.0, fits.1 ∙ sym b, fits.2 ∙ sym c, fits.3 ∙ sym d, fits.4 ∙ sym e, fits.5)

module _ {F B E : Type 0} (M : FrontMeaning F E) (caller : E → ℕ) (N : BackMeaning B E) (first : F) (rear : B) where
  -- what the rule knows went on, and no kept caller is lost
  pub record GoesOn (h h' : Hidden E) : Type 0 where
    pub log : IsPrefix h.log h'.log
    pub written : h.written ≤ h'.written
    pub failed : (n : ℕ) → IsFailure h n → IsFailure h' n
    pub ended : (e : Ended E) → EndedFits M caller N first rear h e → EndedFits M caller N first rear h' e

  -- the same view fits what went on, with what it has of the two turns
  pub with_phases : (h h' : Hidden E) (j : ℕ) (u : View F B E) (p : FrontPhase E) (q : BackPhase E) → GoesOn h h' → Fits M caller N first rear h j u → WhoFits M caller N first rear h' j u.opening u.rear u.mine u.who → FrontFits h' j u.who p → BackFits h' j u.who q
      → Fits M caller N first rear h' j (record u { front = p; back = q })
  with_phases h h' j u p q on fits who front back = record {
    seen = prefix_trans u.seen h.log h'.log fits.seen on.log;
    heard_of = prefix_trans u.heard_of h.log h'.log fits.heard_of on.log;
    counted = let a = fits.counted in let b = prefix_length h.log h'.log on.log in omega (arith, a, b);
    known = let a = fits.known in let b = on.written in omega (arith, a, b);
    failed = on.failed u.failed fits.failed;
    who = who;
    front = front;
    back = back;
    ended = each_map (EndedFits M caller N first rear h) (EndedFits M caller N first rear h') u.ended on.ended fits.ended;
  }

  -- a view that doesn't change fits what went on, where its turns and its caller do
  pub fits_on : (h h' : Hidden E) (j : ℕ) (u : View F B E) → GoesOn h h' → Fits M caller N first rear h j u → WhoFits M caller N first rear h' j u.opening u.rear u.mine u.who → FrontFits h' j u.who u.front → BackFits h' j u.who u.back → Fits M caller N first rear h' j u
  fits_on h h' j u on fits who front back = with_phases h h' j u u.front u.back on fits who front back

  -- another seat holds a turn
  pub on_holder : (h : Hidden E) (o : Option ℕ) → GoesOn h (record h { holder = o })
  on_holder h o = record { log = prefix_self h.log; written = omega arith; failed = λ n t. t; ended = λ e t. t }

  pub on_writer : (h : Hidden E) (o : Option ℕ) → GoesOn h (record h { writer = o })
  on_writer h o = record { log = prefix_self h.log; written = omega arith; failed = λ n t. t; ended = λ e t. t }

  -- what a caller's view knows
  pub caller_fits : (h : Hidden E) (id c : ℕ) (v : View F B E) → Fits M caller N first rear h id v → v.who ≡ Caller c → WhoFits M caller N first rear h id v.opening v.rear v.mine (Caller c)
  caller_fits h id c v fits who = subst (WhoFits M caller N first rear h id v.opening v.rear v.mine) who fits.who

  pub spent_fits : (h : Hidden E) (j : ℕ) → Fits M caller N first rear h j spent_view
  spent_fits h j = record { seen = prefix_none h.log; heard_of = prefix_none h.log; counted = omega arith; known = omega arith; failed = inl refl; who = tt; front = tt; back = tt; ended = tt }

  -- the seat that another one ended in
  pub joined_fits : (h : Hidden E) (id : ℕ) (v w : View F B E) → Fits M caller N first rear h id v → IsPrefix w.seen h.log → w.counted ≤ length h.log → w.known ≤ h.written → IsFailure h w.failed → Each (EndedFits M caller N first rear h) (ended_of w.who w) → Fits M caller N first rear h id (joined v w)
  joined_fits h id v w fits seen counted known failed ended = record {
    seen = fits.seen;
    heard_of = seen;
    counted = let a = fits.counted in grind (arith, counted);
    known = let a = fits.known in grind (arith, known);
    failed = or_else_is (IsFailure h) v.failed w.failed fits.failed failed;
    who = fits.who;
    front = fits.front;
    back = fits.back;
    ended = each_append (EndedFits M caller N first rear h) (ended_of w.who w) v.ended ended fits.ended;
  }
