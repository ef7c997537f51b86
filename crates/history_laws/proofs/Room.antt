-- A size that the calls of a history keep within a limit, with what its unsealed updates gave up: the blocks of all files,
-- or the number of rows.
use Rattle.std.proofs.Common.{◌≡◌, inl, inr, ℕ, ◌+◌, ◌-◌, ◌≤◌, List, [], ◌∷◌, ◌++◌, refl, sym, ap, subst, arith, eqb, map}
use Rattle.std.specs.Prelude.{Bool, true, false, cond, not, ◌&&◌, ◌||◌}
use Rattle.std.specs.List.{filter, list_any}
use Rattle.std.proofs.lemmas.Bool.{cases_Bool}
use Rattle.stream_cuts.specs.Streams.{Enter, Seal, keep_if, without, unsealed_after}
use Rattle.stream_cuts.specs.Forced.{streams, is_open, is_forced, sealed_before, sealing}
use Rattle.stream_cuts.specs.Amounts.{sum_over}
use Rattle.stream_cuts.proofs.Forcing.{without_all, seals_leave}
use Rattle.stream_cuts.proofs.Longer.{unsealed_append}
use Rattle.tree_model.specs.declared.rows.Update.{Update}
use Rattle.tree_model.specs.Rows.{Rows}
use Rattle.tree_model.specs.Updates.{apply}
use Rattle.tree_cuts.specs.Calls.{Sizes, Charge, Charged, charged_meets, Call, Accepted, SyncStream, SyncFile, SyncAll, Other, charge, seals_own, changers, call_steps, steps_from, tree_after, tree_after_all}

module _ {U : Type 0} (f : (ℕ × U) → ℕ) where
  below_first : (b : Bool) (e : ℕ × U) (h g : List (ℕ × U)) → sum_over f h ≤ sum_over f g → sum_over f (keep_if b e h) ≤ f e + sum_over f g
  below_first true e h g le = omega arith
  below_first false e h g le = omega arith

  without_below : (r : ℕ) (h : List (ℕ × U)) → sum_over f (without r h) ≤ sum_over f h
  without_below r [] = omega arith
  without_below r (e ∷ h) = below_first (not (eqb e.0 r)) e (without r h) h (without_below r h)

  -- sealing one more stream leaves no more of the others
  without_more : (s r : ℕ) (h : List (ℕ × U)) → sum_over f (without s (without r h)) ≤ sum_over f (without s h)
  without_more s r [] = omega arith
  without_more s r (e ∷ h) = let ih = without_more s r h in
      elim (eqb e.0 r) as (λ b. sum_over f (without s (keep_if (not b) e (without r h))) ≤ sum_over f (keep_if (not (eqb e.0 s)) e (without s h))) [
        | true ↦ elim (eqb e.0 s) as (λ b. sum_over f (without s (without r h)) ≤ sum_over f (keep_if (not b) e (without s h))) [ true ↦ ih | false ↦ omega arith ]
        | false ↦ elim (eqb e.0 s) as (λ b. sum_over f (keep_if (not b) e (without s (without r h))) ≤ sum_over f (keep_if (not b) e (without s h))) [ true ↦ ih | false ↦ omega arith ]
      ]

  all_below : (rs : List ℕ) (h : List (ℕ × U)) → sum_over f (without_all rs h) ≤ sum_over f h
  all_below [] h = omega arith
  all_below (r ∷ rs) h = let a = without_below r h in let ih = all_below rs (without r h) in omega arith

  last_below : (rs : List ℕ) (s : ℕ) (h : List (ℕ × U)) → sum_over f (without_all (rs ++ s ∷ []) h) ≤ sum_over f (without s h)
  last_below [] s h = omega arith
  last_below (r ∷ rs) s h = let ih = last_below rs s (without r h) in let a = without_more s r h in omega arith

  none_open : (s : ℕ) (h : List (ℕ × U)) → is_open h s ≡ false → without s h ≡ h
  none_open s [] p = refl
  none_open s (e ∷ h) p = elim (eqb e.0 s) as (λ b. (b || list_any (λ (d : ℕ × U). eqb d.0 s) h) ≡ false → keep_if (not b) e (without s h) ≡ e ∷ h) [
    | true ↦ λ q. absurd (cc)
    | false ↦ λ q. ap (λ z. e ∷ z) (none_open s h q)
  ] p

  -- where the own stream is sealed too, no more is left than other streams have
  sealed_own : (own : Bool) (s : ℕ) (rs : List ℕ) (h : List (ℕ × U)) → own ≡ true → sum_over f (without_all (rs ++ cond (own && is_open h s) (s ∷ []) []) h) ≤ sum_over f (without s h)
  sealed_own own s rs h p = subst (λ b. sum_over f (without_all (rs ++ cond (b && is_open h s) (s ∷ []) []) h) ≤ sum_over f (without s h)) (sym p)
      (elim (is_open h s) as (λ b. is_open h s ≡ b → sum_over f (without_all (rs ++ cond b (s ∷ []) []) h) ≤ sum_over f (without s h)) [
        | true ↦ λ q. last_below rs s h
        | false ↦ λ q. (let a = all_below (rs ++ []) h in let b = ap (sum_over f) (none_open s h q) in omega (arith, a, b))
      ] refl)

unsealed_entered : {U : Type 0} (rs : List ℕ) (h : List (ℕ × U)) (s : ℕ) (u : U) → unsealed_after h (map Seal rs ++ Enter s u ∷ []) ≡ (s, u) ∷ without_all rs h
unsealed_entered [] h s u = refl
unsealed_entered (r ∷ rs) h s u = unsealed_entered rs (without r h) s u

-- gave is what an update is charged of the size, and the own stream is sealed where the limit would be passed
module _ (sizes : Sizes) (size : Rows → ℕ) (limit : ℕ) (gave : Charge → ℕ)
    (charged : (t : Rows) (u : Update) → gave (charge t u) ≡ size t - size (apply t u))
    (sealed : (t : Rows) (h : List (ℕ × Charged)) (s : ℕ) (u : Update) → seals_own sizes t h s u ≡ false → size (apply t u) + sum_over (λ e. gave e.1.1) h ≤ limit) where
  abbrev pub given_by : List (ℕ × Charged) → ℕ
  given_by h = sum_over (λ e. gave e.1.1) h

  -- the update was let in: what it gains is at most what is free to its stream
  abbrev pub LetIn : Rows → List (ℕ × Charged) → Call → Type 0
  LetIn t h (Accepted s u) = size (apply t u) - size t ≤ limit - size t - given_by (without s h)
  LetIn t h (SyncStream s) = Unit {0}
  LetIn t h (SyncFile x) = Unit {0}
  LetIn t h SyncAll = Unit {0}
  LetIn t h Other = Unit {0}

  abbrev pub AllLetIn : Rows → List (ℕ × Charged) → List Call → Type 0
  AllLetIn t h [] = Unit {0}
  AllLetIn t h (call ∷ calls) = LetIn t h call × AllLetIn (tree_after t call) (unsealed_after h (call_steps sizes t h call)) calls

  accepted_room : (t : Rows) (h : List (ℕ × Charged)) (s : ℕ) (u : Update) → LetIn t h (Accepted s u) → size t + given_by h ≤ limit
      → size (apply t u) + given_by ((s, (u, charge t u)) ∷ without_all (sealed_before charged_meets s (u, charge t u) (seals_own sizes t h s u) h) h) ≤ limit
  accepted_room t h s u room inv =
      let rs : List ℕ = filter (is_forced charged_meets s (u, charge t u) h) streams in
      let other = without_below (λ (e : ℕ × Charged). gave e.1.1) s h in
      let down = all_below (λ (e : ℕ × Charged). gave e.1.1) (sealed_before charged_meets s (u, charge t u) (seals_own sizes t h s u) h) h in
      let c = charged t u in
      elim (cases_Bool (seals_own sizes t h s u)) [
        | inl p ↦ (let left = sealed_own (λ (e : ℕ × Charged). gave e.1.1) (seals_own sizes t h s u) s rs h p in omega (arith, room, inv, other, down, c, left))
        | inr p ↦ (let fits = sealed t h s u p in omega (arith, room, inv, down, c, fits))
      ]

  seals_room : (t : Rows) (h : List (ℕ × Charged)) (rs : List ℕ) → size t + given_by h ≤ limit → size t + given_by (unsealed_after h (sealing rs h)) ≤ limit
  seals_room t h rs inv =
      let a = ap given_by (seals_leave (filter (is_open h) rs) h) in
      let b = all_below (λ (e : ℕ × Charged). gave e.1.1) (filter (is_open h) rs) h in omega (arith, a, b, inv)

  call_room : (t : Rows) (h : List (ℕ × Charged)) (call : Call) → LetIn t h call → size t + given_by h ≤ limit
      → size (tree_after t call) + given_by (unsealed_after h (call_steps sizes t h call)) ≤ limit
  call_room t h (Accepted s u) r inv =
      subst (λ z. size (apply t u) + given_by z ≤ limit)
      (sym (unsealed_entered (sealed_before charged_meets s (u, charge t u) (seals_own sizes t h s u) h) h s (u, charge t u)))
      (accepted_room t h s u r inv)
  call_room t h (SyncStream s) r inv = seals_room t h (s ∷ []) inv
  call_room t h (SyncFile x) r inv = seals_room t h (changers x h) inv
  call_room t h SyncAll r inv = seals_room t h streams inv
  call_room t h Other r inv = inv

  -- the size and what the unsealed updates gave up of it stay within the limit
  pub room : (t : Rows) (h : List (ℕ × Charged)) (calls : List Call) → AllLetIn t h calls → size t + given_by h ≤ limit
      → size (tree_after_all t calls) + given_by (unsealed_after h (steps_from sizes t h calls)) ≤ limit
  room t h [] r inv = inv
  room t h (call ∷ calls) r inv =
      let g : List (ℕ × Charged) = unsealed_after h (call_steps sizes t h call) in
      subst (λ z. size (tree_after_all (tree_after t call) calls) + given_by z ≤ limit)
      (sym (unsealed_append h (call_steps sizes t h call) (steps_from sizes (tree_after t call) g calls)))
      (room (tree_after t call) g calls r.1 (call_room t h call r.0 inv))
