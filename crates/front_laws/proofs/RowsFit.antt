-- Where an update makes a row, there is room behind its seals.
use Rattle.std.proofs.Common.{◌≡◌, ℕ, ◌+◌, ◌-◌, ◌≤◌, inl, inr, List, [], ◌∷◌, ◌++◌, length, map, refl, sym, ap, subst, arith, ◌∙◌, eqb}
use Rattle.std.specs.Prelude.{Bool, true, false, cond, not, ◌&&◌, ◌||◌}
use Rattle.std.specs.List.{AllByRecursion, filter, list_any}
use Rattle.std.specs.declared.option.Option.{Option}
use Rattle.std.specs.FinMap.{len}
use Rattle.std.proofs.lemmas.Bool.{cases_Bool, ltb-false}
use Rattle.stream_cuts.specs.Streams.{Enter, Seal, keep_if, without, unsealed_after}
use Rattle.stream_cuts.specs.Forced.{streams, is_open, is_forced, sealed_before}
use Rattle.stream_cuts.specs.Amounts.{sum_over}
use Rattle.stream_cuts.proofs.Forcing.{without_all, seals_leave}
use Rattle.stream_cuts.proofs.Longer.{unsealed_append}
use Rattle.tree_model.specs.declared.rows.Entry.{Entry}
use Rattle.tree_model.specs.declared.rows.Update.{Update}
use Rattle.tree_model.specs.declared.rows.Update.TheVariants.{Make}
use Rattle.tree_model.specs.Rows.{Rows}
use Rattle.tree_model.specs.Updates.{apply}
use Rattle.tree_model.proofs.Live.{part, one_each, len_total, total_apply}
use Rattle.tree_cuts.specs.Calls.{Sizes, Charged, charge, charged_meets, seals_own, unsealed_rows}
use Rattle.history_model.specs.State.{Now, Opened, stream_in}
use Rattle.history_model.specs.Histories.{start, entered_by, entry_of}
use Rattle.history_laws.proofs.Sound.{IsSound, handles_left, Told}
use Rattle.history_laws.proofs.Told.{told}
use Rattle.history_laws.proofs.Runs.{sound_start, sound_after}
use Rattle.front_laws.specs.Inodes.{given}
use Rattle.front_laws.specs.Kept.{now_of}
use Rattle.front_laws.specs.Laws.{RowsFitBehindSeals}
use Rattle.front_laws.proofs.LongerBatches.{all_built}
use Rattle.front_laws.proofs.RowsGiven.{IsCounted, all_without, all_counted, counted_given}

-- ---- seals leave no more

module _ {U : Type 0} (f : (ℕ × U) → ℕ) where
  without_below : (r : ℕ) (h : List (ℕ × U)) → sum_over f (without r h) ≤ sum_over f h
  without_below r [] = omega arith
  without_below r (e ∷ h) = let ih = without_below r h in
      elim (eqb e.0 r) as (λ b. sum_over f (keep_if (not b) e (without r h)) ≤ f e + sum_over f h) [ true ↦ omega arith | false ↦ omega arith ]

  without_more : (s r : ℕ) (h : List (ℕ × U)) → sum_over f (without s (without r h)) ≤ sum_over f (without s h)
  without_more s r [] = omega arith
  without_more s r (e ∷ h) = let ih = without_more s r h in
      elim (eqb e.0 r) as (λ b. sum_over f (without s (keep_if (not b) e (without r h))) ≤ sum_over f (keep_if (not (eqb e.0 s)) e (without s h))) [
        | true ↦ elim (eqb e.0 s) as (λ b. sum_over f (without s (without r h)) ≤ sum_over f (keep_if (not b) e (without s h))) [ true ↦ ih | false ↦ omega arith ]
        | false ↦ elim (eqb e.0 s) as (λ b. sum_over f (keep_if (not b) e (without s (without r h))) ≤ sum_over f (keep_if (not b) e (without s h))) [ true ↦ ih | false ↦ omega arith ]
      ]

  all_below : (rs : List ℕ) (h : List (ℕ × U)) → sum_over f (without_all rs h) ≤ sum_over f h
  all_below [] h = omega arith
  all_below (r ∷ rs) h = let a = without_below r h in let ih = all_below rs (without r h) in omega arith

  -- and of a stream that is sealed last nothing
  last_below : (rs : List ℕ) (s : ℕ) (h : List (ℕ × U)) → sum_over f (without_all (rs ++ s ∷ []) h) ≤ sum_over f (without s h)
  last_below [] s h = omega arith
  last_below (r ∷ rs) s h = let ih = last_below rs s (without r h) in let a = without_more s r h in omega arith

  none_open : (s : ℕ) (h : List (ℕ × U)) → is_open h s ≡ false → without s h ≡ h
  none_open s [] p = refl
  none_open s (e ∷ h) p = elim (eqb e.0 s) as (λ b. (b || list_any (λ (d : ℕ × U). eqb d.0 s) h) ≡ false → keep_if (not b) e (without s h) ≡ e ∷ h) [
    | true ↦ λ q. absurd (cc)
    | false ↦ λ q. ap (λ z. e ∷ z) (none_open s h q)
  ] p

  own_below : (own : Bool) (s : ℕ) (rs : List ℕ) (h : List (ℕ × U)) → own ≡ true
      → sum_over f (without_all (rs ++ cond (own && is_open h s) (s ∷ []) []) h) ≤ sum_over f (without s h)
  own_below own s rs h p = subst (λ b. sum_over f (without_all (rs ++ cond (b && is_open h s) (s ∷ []) []) h) ≤ sum_over f (without s h)) (sym p)
      (elim (is_open h s) as (λ b. is_open h s ≡ b → sum_over f (without_all (rs ++ cond b (s ∷ []) []) h) ≤ sum_over f (without s h)) [
        | true ↦ λ q. last_below rs s h
        | false ↦ λ q. (let a = all_below (rs ++ []) h in let b = ap (sum_over f) (none_open s h q) in omega (arith, a, b))
      ] refl)

all_left : (Q : (ℕ × Charged) → Type 0) (rs : List ℕ) (h : List (ℕ × Charged)) → AllByRecursion Q h → AllByRecursion Q (without_all rs h)
all_left Q [] h a = a
all_left Q (r ∷ rs) h a = all_left Q rs (without r h) (all_without Q r h a)

left_unsealed : (h : List (ℕ × Charged)) (rs : List ℕ) (s : ℕ) (u : Charged) → unsealed_after h (map Seal rs ++ Enter s u ∷ []) ≡ (s, u) ∷ without_all rs h
left_unsealed h rs s u = unsealed_append h (map Seal rs) (Enter s u ∷ []) ∙ ap (λ z. (s, u) ∷ z) (seals_leave rs h)

-- ---- an update that makes a row

second_false : (x y : Bool) → (x || y) ≡ false → y ≡ false
second_false true y p = absurd (cc)
second_false false y p = p

-- where no limit seals the own stream, there is room beside all that is unsealed
limit_not_passed : (sizes : Sizes) (t : Rows) (h : List (ℕ × Charged)) (s : ℕ) (u : Update) → seals_own sizes t h s u ≡ false → len (apply t u) + unsealed_rows h ≤ sizes.inodes - 1
limit_not_passed sizes t h s u p = ltb-false (sizes.inodes - 1) (len (apply t u) + unsealed_rows h) (second_false _ _ p)

module _ (sizes : Sizes) (n : Now) (s : ℕ) (hs : List Opened) (dir : ℕ) (name : List ℕ) (id : ℕ) (is_dir : Bool)
    (known : Told sizes n s hs (Make dir name id is_dir)) where
  -- the update
  abbrev made : Update
  made = Make dir name id is_dir

  -- the streams that are sealed before it, and what they leave
  abbrev sealed : List ℕ
  sealed = sealed_before charged_meets s (made, charge n.tree made) (seals_own sizes n.tree n.unsealed s made) n.unsealed

  one_more_row : len (apply n.tree made) ≡ len n.tree + 1
  one_more_row =
      let a = total_apply one_each (λ b. refl) n.tree made in
      let p = len_total (apply n.tree made) in
      let q = len_total n.tree in
      let none = ap (part one_each) known.0.2 in omega (arith, a, p, q, none)

  rows_fit : len n.tree + 1 + unsealed_rows (without_all sealed n.unsealed) ≤ sizes.inodes - 1
  rows_fit =
      let rows : (ℕ × Charged) → ℕ = λ e. e.1.1.gave_rows in
      let others = ltb-false (sizes.inodes - 1) (len n.tree + 1 + unsealed_rows (without s n.unsealed)) known.2 in
      let one = one_more_row in
      elim (cases_Bool (seals_own sizes n.tree n.unsealed s made)) [
        | inl p ↦ (let left = own_below rows (seals_own sizes n.tree n.unsealed s made) s (filter (is_forced charged_meets s (made, charge n.tree made) n.unsealed) streams) n.unsealed p in
            omega (arith, others, left))
        | inr p ↦ (let all = limit_not_passed sizes n.tree n.unsealed s made p in
            let left = all_below rows sealed n.unsealed in omega (arith, one, all, left))
      ]

pub rows_fit_behind_seals : RowsFitBehindSeals
rows_fit_behind_seals sizes t inodes h actor c dir name id is_dir kept is may =
    let n : Now = now_of sizes t h in
    let s : ℕ = stream_in n.choices actor in
    let e : Entry = entry_of sizes n actor c in
    let u : Update = Make dir name id is_dir in
    let sound : IsSound n = sound_after sizes (start t) h (sound_start t kept.plain.tree) kept.legal in
    let known : Told sizes n s (handles_left n actor c) u = told sizes n sound actor c may.1 u is in
    let rs : List ℕ = sealed_before charged_meets s (u, charge n.tree u) (seals_own sizes n.tree n.unsealed s u) n.unsealed in
    let left : (entered_by sizes n e).unsealed ≡ (s, (u, charge n.tree u)) ∷ without_all rs n.unsealed =
    ap (λ (o : Option Update). (entered_by sizes n (record e { update = o })).unsealed) is ∙ left_unsealed n.unsealed rs s (u, charge n.tree u) in
    let counted : length (given inodes (without_all rs n.unsealed)) ≡ unsealed_rows (without_all rs n.unsealed) =
    counted_given inodes (without_all rs n.unsealed) (all_left IsCounted rs n.unsealed
    (all_counted sizes (start t) h (sound_start t kept.plain.tree) kept.legal (all_built h kept.tame) tt)) in
    let fit = rows_fit sizes n s (handles_left n actor c) dir name id is_dir known in
    subst (λ z. len n.tree + 1 + length (given inodes z) ≤ sizes.inodes - 1) (sym left)
    (subst (λ k. len n.tree + 1 + k ≤ sizes.inodes - 1) (sym counted) fit)
