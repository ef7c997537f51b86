-- The unsealed updates of a stream come to at most a limit, or are one update alone.
use Rattle.std.proofs.Common.{◌≡◌, ℕ, ◌+◌, ◌≤◌, ◌⊎◌, inl, inr, List, [], ◌∷◌, ◌++◌, refl, sym, ap, subst, arith, ◌∙◌, eqb, map, length}
use Rattle.std.specs.Prelude.{Bool, true, false, cond, ◌&&◌, ◌||◌}
use Rattle.std.specs.List.{filter, list_any}
use Rattle.std.proofs.lemmas.Bool.{ltb-false, eq-eqb, ne_eqb, cases_eq}
use Rattle.stream_cuts.specs.Streams.{Enter, Seal, keep_if, of_stream, without, unsealed_after}
use Rattle.stream_cuts.specs.Forced.{streams, is_open, is_forced, sealed_before, entering, sealing}
use Rattle.stream_cuts.specs.Amounts.{sum_over}
use Rattle.stream_cuts.proofs.Forcing.{Among, without_all, seals_leave}
use Rattle.stream_cuts.proofs.OfSeal.{none_of_stream, other_stream}
use Rattle.stream_cuts.proofs.Longer.{unsealed_append}
use Rattle.ccfs_base.specs.Limits.{transaction_limit}
use Rattle.tree_model.specs.Rows.{Rows}
use Rattle.tree_model.specs.Weights.{weight}
use Rattle.tree_cuts.specs.Calls.{Sizes, Charged, charged_meets, Call, Accepted, SyncStream, SyncFile, SyncAll, Other, charge, changers, tree_after, unsealed_weight, seals_own, call_steps, steps_from}
use Rattle.tree_cuts.specs.Laws.{TransactionsAreLight}

among_last : (s : ℕ) (rs : List ℕ) → Among s (rs ++ s ∷ [])
among_last s [] = inl refl
among_last s (r ∷ rs) = inr (among_last s rs)

module _ {U : Type 0} where
  -- sealing streams leaves those of a stream as they are, or none
  pub same_or_none : (q : ℕ) (rs : List ℕ) (h : List (ℕ × U)) → (of_stream q (without_all rs h) ≡ of_stream q h) ⊎ (of_stream q (without_all rs h) ≡ [])
  same_or_none q [] h = inl refl
  same_or_none q (r ∷ rs) h = elim (same_or_none q rs (without r h)) [
    | inr e ↦ inr e
    | inl e ↦ elim (cases_eq q r) [
      | inl same ↦ inr (e ∙ subst (λ z. of_stream q (without z h) ≡ []) same (none_of_stream q h))
      | inr ne ↦ inl (e ∙ other_stream q r h ne)
    ]
  ]

  none_stays : (q : ℕ) (rs : List ℕ) (h : List (ℕ × U)) → of_stream q h ≡ [] → of_stream q (without_all rs h) ≡ []
  none_stays q rs h none = elim (same_or_none q rs h) [ inl e ↦ e ∙ none | inr e ↦ e ]

  pub sealed_none : (q : ℕ) (rs : List ℕ) (h : List (ℕ × U)) → Among q rs → of_stream q (without_all rs h) ≡ []
  sealed_none q [] h i = absurd i
  sealed_none q (r ∷ rs) h (inl e) = none_stays q rs (without r h) (subst (λ z. of_stream q (without z h) ≡ []) (sym e) (none_of_stream q h))
  sealed_none q (r ∷ rs) h (inr i) = sealed_none q rs (without r h) i

  pub closed_none : (q : ℕ) (h : List (ℕ × U)) → is_open h q ≡ false → of_stream q h ≡ []
  closed_none q [] p = refl
  closed_none q (e ∷ h) p = elim (eqb e.0 q) as (λ b. (b || list_any (λ (d : ℕ × U). eqb d.0 q) h) ≡ false → keep_if b e (of_stream q h) ≡ []) [
    | true ↦ λ r. absurd (cc)
    | false ↦ λ r. closed_none q h r
  ] p

  unsealed_entered : (rs : List ℕ) (h : List (ℕ × U)) (s : ℕ) (u : U) → unsealed_after h (map Seal rs ++ Enter s u ∷ []) ≡ (s, u) ∷ without_all rs h
  unsealed_entered [] h s u = refl
  unsealed_entered (r ∷ rs) h s u = unsealed_entered rs (without r h) s u

  module _ (f : (ℕ × U) → ℕ) (limit : ℕ) where
    abbrev pub IsLight : ℕ → List (ℕ × U) → Type 0
    IsLight q h = (sum_over f (of_stream q h) ≤ limit) ⊎ (length (of_stream q h) ≡ 1)

    light_none : (q : ℕ) (h : List (ℕ × U)) → of_stream q h ≡ [] → IsLight q h
    light_none q h e = inl (subst (λ z. sum_over f z ≤ limit) (sym e) (let z : 0 ≤ limit = omega arith in z))

    light_same : (q : ℕ) (h g : List (ℕ × U)) → of_stream q g ≡ of_stream q h → IsLight q h → IsLight q g
    light_same q h g e light = subst (λ z. (sum_over f z ≤ limit) ⊎ (length z ≡ 1)) (sym e) light

    light_sealed : (q : ℕ) (rs : List ℕ) (h : List (ℕ × U)) → IsLight q h → IsLight q (without_all rs h)
    light_sealed q rs h light = elim (same_or_none q rs h) [ inl e ↦ light_same q h (without_all rs h) e light | inr e ↦ light_none q (without_all rs h) e ]

    pub light_sealing : (q : ℕ) (rs : List ℕ) (h : List (ℕ × U)) → IsLight q h → IsLight q (unsealed_after h (sealing rs h))
    light_sealing q rs h light = subst (IsLight q) (sym (seals_leave (filter (is_open h) rs) h)) (light_sealed q (filter (is_open h) rs) h light)

    -- behind seals that leave none of the stream, or where the sum stays below the limit
    light_behind : (q s : ℕ) (u : U) (rs : List ℕ) (h : List (ℕ × U)) → ((of_stream s (without_all rs h) ≡ []) ⊎ (sum_over f (of_stream s h) + f (s, u) ≤ limit))
        → IsLight q h → IsLight q ((s, u) ∷ without_all rs h)
    light_behind q s u rs h room light = elim (cases_eq s q) [
      | inr ne ↦ light_same q (without_all rs h) ((s, u) ∷ without_all rs h) (ap (λ b. keep_if b (s, u) (of_stream q (without_all rs h))) (ne_eqb s q ne)) (light_sealed q rs h light)
      | inl e ↦ subst (λ z. IsLight z ((s, u) ∷ without_all rs h)) e (
          let first : of_stream s ((s, u) ∷ without_all rs h) ≡ (s, u) ∷ of_stream s (without_all rs h) = ap (λ b. keep_if b (s, u) (of_stream s (without_all rs h))) (eq-eqb s s refl) in
          let alone : of_stream s (without_all rs h) ≡ [] → IsLight s ((s, u) ∷ without_all rs h) = λ none. inr (ap length (first ∙ ap (λ z. (s, u) ∷ z) none)) in
          elim room [
            | inl none ↦ alone none
            | inr below ↦ elim (same_or_none s rs h) [
              | inr none ↦ alone none
              | inl same ↦ inl (
                  let total : sum_over f (of_stream s ((s, u) ∷ without_all rs h)) ≡ f (s, u) + sum_over f (of_stream s h) = ap (sum_over f) (first ∙ ap (λ z. (s, u) ∷ z) same) in omega arith)
            ]
          ])
    ]

    pub light_entering : (q : ℕ) (meets : U → U → Bool) (s : ℕ) (u : U) (own : Bool) (h : List (ℕ × U)) → (own ≡ false → sum_over f (of_stream s h) + f (s, u) ≤ limit)
        → IsLight q h → IsLight q (unsealed_after h (entering meets s u own h))
    light_entering q meets s u own h below light =
        let rs : List ℕ = sealed_before meets s u own h in
        subst (IsLight q) (sym (unsealed_entered rs h s u)) (light_behind q s u rs h (
        elim own as (λ b. own ≡ b → (of_stream s (without_all (filter (is_forced meets s u h) streams ++ cond (b && is_open h s) (s ∷ []) []) h) ≡ []) ⊎ (sum_over f (of_stream s h) + f (s, u) ≤ limit)) [
          | false ↦ λ p. inr (below p)
          | true ↦ λ p. inl (
              elim (is_open h s) as (λ b. is_open h s ≡ b → of_stream s (without_all (filter (is_forced meets s u h) streams ++ cond b (s ∷ []) []) h) ≡ []) [
                | true ↦ λ o. sealed_none s (filter (is_forced meets s u h) streams ++ s ∷ []) h (among_last s (filter (is_forced meets s u h) streams))
                | false ↦ λ o. none_stays s (filter (is_forced meets s u h) streams ++ []) h (closed_none s h o)
              ] refl)
        ] refl) light)

abbrev its_weight : (ℕ × Charged) → ℕ
its_weight e = e.1.1.weight

first_false : (x y : Bool) → (x || y) ≡ false → x ≡ false
first_false true y p = p
first_false false y p = refl

module _ (sizes : Sizes) (q : ℕ) where
  call_light : (t : Rows) (h : List (ℕ × Charged)) (call : Call) → IsLight its_weight transaction_limit q h → IsLight its_weight transaction_limit q (unsealed_after h (call_steps sizes t h call))
  call_light t h (Accepted s u) light = light_entering its_weight transaction_limit q charged_meets s (u, charge t u) (seals_own sizes t h s u) h
      (λ p. ltb-false transaction_limit (unsealed_weight s h + weight t u) (first_false _ _ (first_false _ _ p))) light
  call_light t h (SyncStream s) light = light_sealing its_weight transaction_limit q (s ∷ []) h light
  call_light t h (SyncFile x) light = light_sealing its_weight transaction_limit q (changers x h) h light
  call_light t h SyncAll light = light_sealing its_weight transaction_limit q streams h light
  call_light t h Other light = light

  steps_light : (t : Rows) (h : List (ℕ × Charged)) (calls : List Call) → IsLight its_weight transaction_limit q h → IsLight its_weight transaction_limit q (unsealed_after h (steps_from sizes t h calls))
  steps_light t h [] light = light
  steps_light t h (call ∷ calls) light =
      let g : List (ℕ × Charged) = unsealed_after h (call_steps sizes t h call) in
      subst (IsLight its_weight transaction_limit q) (sym (unsealed_append h (call_steps sizes t h call) (steps_from sizes (tree_after t call) g calls)))
      (steps_light (tree_after t call) g calls (call_light t h call light))

pub transactions_are_light : TransactionsAreLight
transactions_are_light sizes t calls s = steps_light sizes s t [] calls (inl (let z : 0 ≤ transaction_limit = omega arith in z))
