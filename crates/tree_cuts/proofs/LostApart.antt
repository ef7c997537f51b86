-- What a closed cut loses before a kept update is of other streams, and doesn't meet it.
use Rattle.std.proofs.Common.{◌≡◌, ℕ, ◌≤◌, ◌<◌, ◌≢◌, List, [], ◌∷◌, ◌++◌, refl, sym, ap, subst, arith, ◌∙◌, ltb, append_assoc}
use Rattle.std.specs.Prelude.{true, false, not}
use Rattle.std.specs.List.{AllByRecursion}
use Rattle.std.proofs.lemmas.Bool.{ltb-false}
use Rattle.stream_cuts.specs.Streams.{no_counts, one_more, counts_after, keep_if}
use Rattle.stream_cuts.specs.Cuts.{lost_from, lost, IsKept, IsClosed}
use Rattle.stream_cuts.specs.States.{AllApply}
use Rattle.stream_cuts.proofs.Counts.{one_more_above}

module _ {U : Type 0} where
  counts_rise : (seen : ℕ → ℕ) (h : List (ℕ × U)) (q : ℕ) → seen q ≤ counts_after seen h q
  counts_rise seen [] q = omega arith
  counts_rise seen (e ∷ h) q = let ih = counts_rise (one_more seen e.0) h q in let up = one_more_above seen e.0 q in omega arith

  counts_append : (seen : ℕ → ℕ) (h g : List (ℕ × U)) → counts_after seen (h ++ g) ≡ counts_after (counts_after seen h) g
  counts_append seen [] g = refl
  counts_append seen (e ∷ h) g = counts_append (one_more seen e.0) h g

  -- what holds of each update that is lost at its place holds of all lost ones
  lost_each : (P : (ℕ × U) → Type 0) (seen c : ℕ → ℕ) (h : List (ℕ × U))
      → ((first rest : List (ℕ × U)) (d : ℕ × U) → h ≡ first ++ d ∷ rest → c d.0 ≤ counts_after seen first d.0 → P d) → AllByRecursion P (lost_from seen c h)
  lost_each P seen c [] f = tt
  lost_each P seen c (d ∷ h) f =
      let rest : AllByRecursion P (lost_from (one_more seen d.0) c h) = lost_each P (one_more seen d.0) c h (λ m r x is le. f (d ∷ m) r x (ap (λ z. d ∷ z) is) le) in
      elim (ltb (seen d.0) (c d.0)) as (λ b. ltb (seen d.0) (c d.0) ≡ b → AllByRecursion P (keep_if (not b) d (lost_from (one_more seen d.0) c h))) [
        | true ↦ λ p. rest
        | false ↦ λ p. (f [] h d refl (ltb-false (seen d.0) (c d.0) p), rest)
      ] refl

  module _ (Meet : U → U → Type 0) where
    pub lost_apart : (c : ℕ → ℕ) (h before rest : List (ℕ × U)) (e : ℕ × U) → IsClosed Meet h c → h ≡ before ++ e ∷ rest → IsKept c before e
        → AllByRecursion (λ d. Meet d.1 e.1 → ⊥) (lost before c)
    lost_apart c h before rest e closed is kept = lost_each (λ d. Meet d.1 e.1 → ⊥) no_counts c before
        (λ first middle d here le m.
        let apart : d.0 ≢ e.0 = λ same.
        let up : counts_after no_counts first d.0 ≤ counts_after no_counts before d.0
        = subst (λ z. counts_after no_counts first d.0 ≤ counts_after no_counts z d.0) (sym here)
        (subst (λ z. counts_after no_counts first d.0 ≤ z d.0) (sym (counts_append no_counts first (d ∷ middle))) (counts_rise (counts_after no_counts first) (d ∷ middle) d.0)) in
        let below : counts_after no_counts before d.0 < c d.0 = subst (λ z. counts_after no_counts before z < c z) (sym same) kept in
        omega arith in
        let whole : h ≡ first ++ d ∷ (middle ++ e ∷ rest) = is ∙ ap (λ z. z ++ e ∷ rest) here ∙ append_assoc first (d ∷ middle) (e ∷ rest) in
        let too : counts_after no_counts first d.0 < c d.0 = closed first middle rest d e whole apart m (subst (λ z. counts_after no_counts z e.0 < c e.0) here kept) in
        omega arith)

    -- a cut that is closed is closed on the first updates alone
    pub closed_before : (c : ℕ → ℕ) (h before rest : List (ℕ × U)) → IsClosed Meet h c → h ≡ before ++ rest → IsClosed Meet before c
    closed_before c h before rest closed is first middle last e d here =
        closed first middle (last ++ rest) e d (
        is ∙ ap (λ z. z ++ rest) here ∙ append_assoc first (e ∷ (middle ++ d ∷ last)) rest
        ∙ ap (λ z. first ++ e ∷ z) (append_assoc middle (d ∷ last) rest)
        )

module _ {S U : Type 0} (Applies : S → U → Type 0) (apply : S → U → S) where
  pub apply_before : (t : S) (before rest : List (ℕ × U)) → AllApply Applies apply t (before ++ rest) → AllApply Applies apply t before
  apply_before t [] rest a = tt
  apply_before t (e ∷ before) rest a = (a.0, apply_before (apply t e.1) before rest a.1)
