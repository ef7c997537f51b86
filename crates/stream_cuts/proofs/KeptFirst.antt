-- The kept updates of a closed cut apply, and then the lost ones, with the same end.
use Rattle.std.proofs.Common.{◌≡◌, ℕ, suc, ◌<◌, ◌≢◌, inl, inr, List, [], ◌∷◌, refl, sym, ap, subst, arith, ◌∙◌, ltb}
use Rattle.std.specs.Prelude.{true, false, not}
use Rattle.std.specs.List.{AllByRecursion}
use Rattle.std.proofs.lemmas.Bool.{ltb-false, cases_eq}
use Rattle.stream_cuts.specs.Streams.{no_counts, one_more, keep_if}
use Rattle.stream_cuts.specs.Cuts.{kept_from, lost_from, kept, lost, IsClosed}
use Rattle.stream_cuts.specs.States.{after, AllApply, Swaps}
use Rattle.stream_cuts.proofs.Counts.{one_more_here}
use Rattle.stream_cuts.proofs.Closedness.{IsClosedFrom, closed_from, kept_all, All_both}

module _ {S U : Type 0} (Applies : S → U → Type 0) (apply : S → U → S) (Meet : U → U → Type 0) (swaps : Swaps Applies apply Meet) where
  -- an update that meets none of these may come behind them
  pub passes : (t : S) (u : U) (h : List (ℕ × U)) → Applies t u → AllApply Applies apply (apply t u) h → AllByRecursion (λ e. Meet u e.1 → ⊥) h
      → AllApply Applies apply t h × Applies (after apply t h) u × (after apply (apply t u) h ≡ apply (after apply t h) u)
  passes t u [] a r m = (tt, a, refl)
  passes t u (e ∷ h) a r m =
      let w : Applies t e.1 × Applies (apply t e.1) u × (apply (apply t u) e.1 ≡ apply (apply t e.1) u) = swaps t u e.1 m.0 a r.0 in
      let ih = passes (apply t e.1) u h w.1 (subst (λ z. AllApply Applies apply z h) w.2 r.1) m.1 in
      ((w.0, ih.0), ih.1, ap (λ z. after apply z h) w.2 ∙ ih.2)

  -- the kept updates first, and then the lost ones
  pub kept_first : (t : S) (seen c : ℕ → ℕ) (h : List (ℕ × U)) → AllApply Applies apply t h → IsClosedFrom Meet seen c h
      → AllApply Applies apply t (kept_from seen c h)
      × AllApply Applies apply (after apply t (kept_from seen c h)) (lost_from seen c h)
      × (after apply (after apply t (kept_from seen c h)) (lost_from seen c h) ≡ after apply t h)
  kept_first t seen c [] r k = (tt, tt, refl)
  kept_first t seen c (e ∷ h) r k =
      let K : List (ℕ × U) = kept_from (one_more seen e.0) c h in
      let L : List (ℕ × U) = lost_from (one_more seen e.0) c h in
      let ih : AllApply Applies apply (apply t e.1) K
      × AllApply Applies apply (after apply (apply t e.1) K) L
      × (after apply (after apply (apply t e.1) K) L ≡ after apply (apply t e.1) h)
      = kept_first (apply t e.1) (one_more seen e.0) c h r.1 k.1 in
      elim (ltb (seen e.0) (c e.0)) as (λ b. ltb (seen e.0) (c e.0) ≡ b →
      AllApply Applies apply t (keep_if b e K)
      × AllApply Applies apply (after apply t (keep_if b e K)) (keep_if (not b) e L)
      × (after apply (after apply t (keep_if b e K)) (keep_if (not b) e L) ≡ after apply (apply t e.1) h)) [
        | true ↦ λ p. ((r.0, ih.0), ih.1, ih.2)
        | false ↦ λ p.
            let past : AllByRecursion (λ (d : ℕ × U). one_more seen e.0 d.0 < c d.0) K = kept_all (λ d. one_more seen e.0 d.0 < c d.0) (one_more seen e.0) c h (λ d l. l) in
            let apart : AllByRecursion (λ (d : ℕ × U). Meet e.1 d.1 → ⊥) K
            = All_both (λ d. one_more seen e.0 d.0 < c d.0) (λ d. e.0 ≢ d.0 → Meet e.1 d.1 → ⊥) (λ d. Meet e.1 d.1 → ⊥)
            (λ d l n. elim (cases_eq e.0 d.0) [
              | inl same ↦ λ m. let le = ltb-false (seen e.0) (c e.0) p in
                  let l2 : suc (seen e.0) < c e.0 = subst (λ z. z < c e.0) (one_more_here seen e.0) (subst (λ z. one_more seen e.0 z < c z) (sym same) l) in omega arith
              | inr ne ↦ n ne
            ]) K past (All_both (λ d. d.0 ≢ e.0 → Meet e.1 d.1 → ⊥) (λ d. d.0 ≢ e.0 → Meet e.1 d.1 → ⊥) (λ d. e.0 ≢ d.0 → Meet e.1 d.1 → ⊥) (λ d n m ne. n (λ q. ne (sym q))) K (k.0 p) (k.0 p)) in
            let w = passes t e.1 K r.0 ih.0 apart in
            (w.0, (w.1, subst (λ z. AllApply Applies apply z L) w.2 ih.1), ap (λ z. after apply z L) (sym w.2) ∙ ih.2)
      ] refl

  pub kept_apply : (t : S) (h : List (ℕ × U)) (c : ℕ → ℕ) → AllApply Applies apply t h → IsClosed Meet h c
      → AllApply Applies apply t (kept h c) × AllApply Applies apply (after apply t (kept h c)) (lost h c)
      × (after apply (after apply t (kept h c)) (lost h c) ≡ after apply t h)
  kept_apply t h c r k = kept_first t no_counts c h r (closed_from Meet c h k)
