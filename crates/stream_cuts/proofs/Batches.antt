-- The state at a later closed cut is the state at an earlier one and then the updates in between, in history order.
use Rattle.std.proofs.Common.{◌≡◌, ℕ, suc, ◌≤◌, ◌⊎◌, inl, inr, List, [], ◌∷◌, refl, sym, ap, subst, arith, ◌∙◌, ltb}
use Rattle.std.specs.Prelude.{true, false, not, ◌&&◌}
use Rattle.std.proofs.lemmas.Bool.{ltb-true, ltb-false, le-ltb, cases_eq}
use Rattle.stream_cuts.specs.Streams.{no_counts, one_more, keep_if}
use Rattle.stream_cuts.specs.Cuts.{kept_from, lost_from, between_from, kept, between, IsClosed}
use Rattle.stream_cuts.specs.States.{after, AllApply, Swaps}
use Rattle.stream_cuts.proofs.KeptFirst.{kept_first}
use Rattle.stream_cuts.proofs.Closedness.{IsApart, IsClosedFrom, closed_from}
use Rattle.stream_cuts.proofs.Counts.{one_more_here, one_more_apart, one_more_above}

-- two counts agree where the cut still keeps something
abbrev Agree : (a b c : ℕ → ℕ) → Type 0
Agree a b c = (q : ℕ) → (a q ≡ b q) ⊎ ((c q ≤ a q) × (c q ≤ b q))

agree_more : (a b c : ℕ → ℕ) (s : ℕ) → Agree a b c → Agree (one_more a s) (one_more b s) c
agree_more a b c s f q = elim (f q) [
  | inl e ↦ elim (cases_eq s q) [
    | inl same ↦ inl (subst (λ r. one_more a s r ≡ one_more b s r) same
        (one_more_here a s ∙ ap suc (subst (λ r. a r ≡ b r) (sym same) e) ∙ sym (one_more_here b s)))
    | inr ne ↦ inl (one_more_apart a s q ne ∙ e ∙ sym (one_more_apart b s q ne))
  ]
  | inr p ↦ inr (let h = one_more_above a s q in let p0 = p.0 in omega arith, let h = one_more_above b s q in let p1 = p.1 in omega arith)
]

agree_lost : (a b c : ℕ → ℕ) (s : ℕ) → c s ≤ b s → Agree a b c → Agree a (one_more b s) c
agree_lost a b c s le f q = elim (f q) [
  | inl e ↦ elim (cases_eq s q) [
    | inl same ↦ inr (
      subst (λ r. c r ≤ a r) same (let e2 : a s ≡ b s = subst (λ r. a r ≡ b r) (sym same) e in omega arith),
      let h = one_more_above b s q in let le2 : c q ≤ b q = subst (λ r. c r ≤ b r) same le in omega arith,
    )
    | inr ne ↦ inl (e ∙ sym (one_more_apart b s q ne))
  ]
  | inr p ↦ inr (p.0, let h = one_more_above b s q in let p1 = p.1 in omega arith)
]

module _ {U : Type 0} where
  -- what the smaller cut keeps of what the larger one keeps is what it keeps
  pub kept_kept : (a b c d : ℕ → ℕ) (h : List (ℕ × U)) → ((q : ℕ) → c q ≤ d q) → Agree a b d → kept_from a c (kept_from b d h) ≡ kept_from b c h
  kept_kept a b c d [] le f = refl
  kept_kept a b c d (e ∷ h) le f = elim (ltb (b e.0) (d e.0)) as (λ x. ltb (b e.0) (d e.0) ≡ x →
      kept_from a c (keep_if x e (kept_from (one_more b e.0) d h)) ≡ keep_if (ltb (b e.0) (c e.0)) e (kept_from (one_more b e.0) c h)) [
        | true ↦ λ p.
            let same : a e.0 ≡ b e.0 = elim (f e.0) [ inl q ↦ q | inr q ↦ absurd (let lt = ltb-true (b e.0) (d e.0) p in let q1 = q.1 in omega arith) ] in
            ap (λ z. keep_if (ltb z (c e.0)) e (kept_from (one_more a e.0) c (kept_from (one_more b e.0) d h))) same
            ∙ ap (keep_if (ltb (b e.0) (c e.0)) e) (kept_kept (one_more a e.0) (one_more b e.0) c d h le (agree_more a b d e.0 f))
        | false ↦ λ p.
            let ge : d e.0 ≤ b e.0 = ltb-false (b e.0) (d e.0) p in
            kept_kept a (one_more b e.0) c d h le (agree_lost a b d e.0 ge f)
            ∙ sym (ap (λ x. keep_if x e (kept_from (one_more b e.0) c h)) (le-ltb (b e.0) (c e.0) (let g = le e.0 in omega arith)))
      ] refl

  -- what the smaller cut loses of what the larger one keeps lies between the two
  pub lost_kept : (a b c d : ℕ → ℕ) (h : List (ℕ × U)) → Agree a b d → lost_from a c (kept_from b d h) ≡ between_from b c d h
  lost_kept a b c d [] f = refl
  lost_kept a b c d (e ∷ h) f = elim (ltb (b e.0) (d e.0)) as (λ x. ltb (b e.0) (d e.0) ≡ x →
      lost_from a c (keep_if x e (kept_from (one_more b e.0) d h)) ≡ keep_if (x && not (ltb (b e.0) (c e.0))) e (between_from (one_more b e.0) c d h)) [
        | true ↦ λ p.
            let same : a e.0 ≡ b e.0 = elim (f e.0) [ inl q ↦ q | inr q ↦ absurd (let lt = ltb-true (b e.0) (d e.0) p in let q1 = q.1 in omega arith) ] in
            ap (λ z. keep_if (not (ltb z (c e.0))) e (lost_from (one_more a e.0) c (kept_from (one_more b e.0) d h))) same
            ∙ ap (keep_if (not (ltb (b e.0) (c e.0))) e) (lost_kept (one_more a e.0) (one_more b e.0) c d h (agree_more a b d e.0 f))
        | false ↦ λ p.
            let ge : d e.0 ≤ b e.0 = ltb-false (b e.0) (d e.0) p in
            lost_kept a (one_more b e.0) c d h (agree_lost a b d e.0 ge f)
      ] refl

  pub closed_kept : (Meet : U → U → Type 0) (a b c d : ℕ → ℕ) (h : List (ℕ × U)) → ((q : ℕ) → c q ≤ d q) → Agree a b d → IsClosedFrom Meet b c h → IsClosedFrom Meet a c (kept_from b d h)
  closed_kept Meet a b c d [] le f k = tt
  closed_kept Meet a b c d (e ∷ h) le f k = elim (ltb (b e.0) (d e.0)) as (λ x. ltb (b e.0) (d e.0) ≡ x → IsClosedFrom Meet a c (keep_if x e (kept_from (one_more b e.0) d h))) [
    | true ↦ λ p.
        let same : a e.0 ≡ b e.0 = elim (f e.0) [ inl q ↦ q | inr q ↦ absurd (let lt = ltb-true (b e.0) (d e.0) p in let q1 = q.1 in omega arith) ] in (
          λ lost. subst (λ z. IsApart Meet e.0 e.1 z) (sym (kept_kept (one_more a e.0) (one_more b e.0) c d h le (agree_more a b d e.0 f)))
              (k.0 (ap (λ z. ltb z (c e.0)) (sym same) ∙ lost)),
          closed_kept Meet (one_more a e.0) (one_more b e.0) c d h le (agree_more a b d e.0 f) k.1,
        )
    | false ↦ λ p. closed_kept Meet a (one_more b e.0) c d h le (agree_lost a b d e.0 (ltb-false (b e.0) (d e.0) p) f) k.1
  ] refl

module _ {S U : Type 0} (Applies : S → U → Type 0) (apply : S → U → S) (Meet : U → U → Type 0) (swaps : Swaps Applies apply Meet) where
  -- a larger closed cut is the smaller one and then what lies between
  pub cut_further : (t : S) (h : List (ℕ × U)) (c d : ℕ → ℕ) → ((q : ℕ) → c q ≤ d q) → AllApply Applies apply t h → IsClosed Meet h c → IsClosed Meet h d
      → AllApply Applies apply (after apply t (kept h c)) (between h c d)
      × (after apply t (kept h d) ≡ after apply (after apply t (kept h c)) (between h c d))
  cut_further t h c d le r kc kd =
      let whole = kept_first Applies apply Meet swaps t no_counts d h r (closed_from Meet d h kd) in
      let f : Agree no_counts no_counts d = λ q. inl refl in
      let part = kept_first Applies apply Meet swaps t no_counts c (kept h d) whole.0 (closed_kept Meet no_counts no_counts c d h le f (closed_from Meet c h kc)) in
      let same : kept_from no_counts c (kept h d) ≡ kept h c = kept_kept no_counts no_counts c d h le f in
      let past : lost_from no_counts c (kept h d) ≡ between h c d = lost_kept no_counts no_counts c d h f in (
        subst (AllApply Applies apply (after apply t (kept h c))) past (subst (λ z. AllApply Applies apply (after apply t z) (lost_from no_counts c (kept h d))) same part.1),
        sym part.2 ∙ ap (λ z. after apply (after apply t z) (lost_from no_counts c (kept h d))) same ∙ ap (after apply (after apply t (kept h c))) past,
      )
