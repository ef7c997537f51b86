-- The size of the state at a closed cut, for any states with a size.
use Rattle.std.proofs.Common.{◌≡◌, ℕ, suc, ◌+◌, ◌<◌, ◌≢◌, inl, inr, List, [], ◌∷◌, refl, sym, ap, subst, arith, ◌∙◌, ltb}
use Rattle.std.specs.Prelude.{true, false, cond, not}
use Rattle.std.specs.List.{AllByRecursion}
use Rattle.std.proofs.lemmas.Bool.{ltb-false, cases_eq}
use Rattle.stream_cuts.specs.Streams.{no_counts, one_more, keep_if}
use Rattle.stream_cuts.specs.Cuts.{kept_from, lost_from, kept, IsClosed}
use Rattle.stream_cuts.specs.States.{after, AllApply, Swaps}
use Rattle.stream_cuts.specs.Amounts.{lost_total_from, lost_total, gained, given, Steady}
use Rattle.stream_cuts.proofs.KeptFirst.{passes, kept_first}
use Rattle.stream_cuts.proofs.Closedness.{IsClosedFrom, closed_from, kept_all, All_both}
use Rattle.stream_cuts.proofs.Counts.{one_more_here}

-- the sum over these updates, each at its place
abbrev total : {S U : Type 0} (apply : S → U → S) → (S → U → ℕ) → S → List (ℕ × U) → ℕ
total apply f t [] = 0
total apply f t (e ∷ h) = f t e.1 + total apply f (apply t e.1) h

module _ {S U : Type 0} (Applies : S → U → Type 0) (apply : S → U → S) (size : S → ℕ) (Meet : U → U → Type 0) (swaps : Swaps Applies apply Meet) (steady : Steady apply size Applies Meet) where
  steady_past : (f : S → U → ℕ) → ((t : S) (u v : U) → (Meet u v → ⊥) → Applies t u → Applies (apply t u) v → f (apply t v) u ≡ f t u)
      → (t : S) (u : U) (h : List (ℕ × U)) → Applies t u → AllApply Applies apply (apply t u) h → AllByRecursion (λ e. Meet u e.1 → ⊥) h → f (after apply t h) u ≡ f t u
  steady_past f s t u [] a r m = refl
  steady_past f s t u (e ∷ h) a r m =
      let w : Applies t e.1 × Applies (apply t e.1) u × (apply (apply t u) e.1 ≡ apply (apply t e.1) u) = swaps t u e.1 m.0 a r.0 in
      steady_past f s (apply t e.1) u h w.1 (subst (λ z. AllApply Applies apply z h) w.2 r.1) m.1 ∙ s t u e.1 m.0 a r.0

  -- what the lost updates come to at their places in the whole list they come to behind the kept ones
  lost_behind : (f : S → U → ℕ) → ((t : S) (u v : U) → (Meet u v → ⊥) → Applies t u → Applies (apply t u) v → f (apply t v) u ≡ f t u)
      → (t : S) (seen c : ℕ → ℕ) (h : List (ℕ × U)) → AllApply Applies apply t h → IsClosedFrom Meet seen c h
      → lost_total_from apply f seen c t h ≡ total apply f (after apply t (kept_from seen c h)) (lost_from seen c h)
  lost_behind f s t seen c [] r k = refl
  lost_behind f s t seen c (e ∷ h) r k =
      let K : List (ℕ × U) = kept_from (one_more seen e.0) c h in
      let L : List (ℕ × U) = lost_from (one_more seen e.0) c h in
      let ih : lost_total_from apply f (one_more seen e.0) c (apply t e.1) h ≡ total apply f (after apply (apply t e.1) K) L
      = lost_behind f s (apply t e.1) (one_more seen e.0) c h r.1 k.1 in
      let deep : AllApply Applies apply (apply t e.1) K = (kept_first Applies apply Meet swaps (apply t e.1) (one_more seen e.0) c h r.1 k.1).0 in
      elim (ltb (seen e.0) (c e.0)) as (λ b. ltb (seen e.0) (c e.0) ≡ b →
      cond b 0 (f t e.1) + lost_total_from apply f (one_more seen e.0) c (apply t e.1) h
      ≡ total apply f (after apply t (keep_if b e K)) (keep_if (not b) e L)) [
        | true ↦ λ p. (let z : 0 + lost_total_from apply f (one_more seen e.0) c (apply t e.1) h ≡ lost_total_from apply f (one_more seen e.0) c (apply t e.1) h = omega arith in z ∙ ih)
        | false ↦ λ p.
            let past : AllByRecursion (λ (d : ℕ × U). one_more seen e.0 d.0 < c d.0) K = kept_all (λ d. one_more seen e.0 d.0 < c d.0) (one_more seen e.0) c h (λ d l. l) in
            let apart : AllByRecursion (λ (d : ℕ × U). Meet e.1 d.1 → ⊥) K
            = All_both (λ d. one_more seen e.0 d.0 < c d.0) (λ d. d.0 ≢ e.0 → Meet e.1 d.1 → ⊥) (λ d. Meet e.1 d.1 → ⊥)
            (λ d l n. elim (cases_eq e.0 d.0) [
              | inl same ↦ λ m. let le = ltb-false (seen e.0) (c e.0) p in
                  let l2 : suc (seen e.0) < c e.0 = subst (λ z. z < c e.0) (one_more_here seen e.0) (subst (λ z. one_more seen e.0 z < c z) (sym same) l) in omega arith
              | inr ne ↦ n (λ q. ne (sym q))
            ]) K past (k.0 p) in
            let w = passes Applies apply Meet swaps t e.1 K r.0 deep apart in
            ap (λ z. z + lost_total_from apply f (one_more seen e.0) c (apply t e.1) h) (sym (steady_past f s t e.1 K r.0 deep apart))
            ∙ ap (λ z. f (after apply t K) e.1 + z) (ih ∙ ap (λ z. total apply f z L) w.2)
      ] refl

  telescope : (t : S) (h : List (ℕ × U)) → size (after apply t h) + total apply (given apply size) t h ≡ size t + total apply (gained apply size) t h
  telescope t [] = refl
  telescope t (e ∷ h) = let ih = telescope (apply t e.1) h in omega arith

  -- the size at a closed cut and what the lost updates gain are the size at the end and what they give up
  pub amounts_at_cut : (t : S) (h : List (ℕ × U)) (c : ℕ → ℕ) → AllApply Applies apply t h → IsClosed Meet h c
      → size (after apply t (kept h c)) + lost_total apply (gained apply size) c t h
      ≡ size (after apply t h) + lost_total apply (given apply size) c t h
  amounts_at_cut t h c r closed =
      let k : IsClosedFrom Meet no_counts c h = closed_from Meet c h closed in
      let up = lost_behind (gained apply size) (λ t u v m a b. (steady t u v m a b).0) t no_counts c h r k in
      let down = lost_behind (given apply size) (λ t u v m a b. (steady t u v m a b).1) t no_counts c h r k in
      let whole = (kept_first Applies apply Meet swaps t no_counts c h r k).2 in
      ap (λ z. size (after apply t (kept h c)) + z) up ∙ sym (telescope (after apply t (kept h c)) (lost_from no_counts c h))
      ∙ ap (λ z. z + total apply (given apply size) (after apply t (kept h c)) (lost_from no_counts c h)) (ap size whole)
      ∙ ap (λ z. size (after apply t h) + z) (sym down)
