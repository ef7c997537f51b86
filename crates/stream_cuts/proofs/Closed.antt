-- The cut after each seal is closed.
use Rattle.std.proofs.Common.{◌≡◌, ℕ, zero, suc, ◌≤◌, ◌<◌, ◌≢◌, ◌⊎◌, inl, inr, List, [], ◌∷◌, refl, sym, ap, subst, arith, ◌∙◌, eqb, ltb, take}
use Rattle.std.specs.Prelude.{true, false, not}
use Rattle.std.specs.List.{AllByRecursion}
use Rattle.std.proofs.lemmas.Bool.{ltb-false, ne_eqb, cases_eq}
use Rattle.stream_cuts.specs.Streams.{Step, Enter, Seal, no_counts, with_count, one_more, entered, counts_after, keep_if, without, IsGuarded}
use Rattle.stream_cuts.specs.Cuts.{kept_from, lost, IsClosed, seals_from, cut_of, cut_at}
use Rattle.stream_cuts.proofs.Counts.{one_more_here, one_more_above, with_count_here, with_count_below, with_count_above, more_below}
use Rattle.stream_cuts.proofs.Closedness.{IsApart, IsClosedFrom, closed_of, kept_none}

module _ {U : Type 0} where
  abbrev pub Holds : (ℕ × U) → List (ℕ × U) → Type 0
  Holds e [] = ⊥
  Holds e (d ∷ h) = (d ≡ e) ⊎ Holds e h

  pub at_held : (P : (ℕ × U) → Type 0) (e : ℕ × U) (h : List (ℕ × U)) → AllByRecursion P h → Holds e h → P e
  at_held P e [] a i = absurd i
  at_held P e (d ∷ h) a (inl p) = subst P p a.0
  at_held P e (d ∷ h) a (inr i) = at_held P e h a.1 i

  pub held_without : (e : ℕ × U) (s : ℕ) (h : List (ℕ × U)) → s ≢ e.0 → Holds e h → Holds e (without s h)
  held_without e s [] ne i = i
  held_without e s (d ∷ h) ne (inl p) =
      subst (λ b. Holds e (keep_if (not b) d (without s h))) (sym (ne_eqb d.0 s (λ q. ne (sym q ∙ ap (λ (z : ℕ × U). z.0) p)))) (inl p)
  held_without e s (d ∷ h) ne (inr i) =
      let rest = held_without e s h ne i in
      elim (eqb d.0 s) as (λ b. Holds e (keep_if (not b) d (without s h))) [ true ↦ rest | false ↦ inr rest ]

  -- the seals only raise the cut
  pub cut_above : (seen c : ℕ → ℕ) (n : ℕ) (l : List (Step U)) → ((q : ℕ) → c q ≤ seen q) → (q : ℕ) → c q ≤ cut_of c (take n (seals_from seen l)) q
  cut_above seen c zero [] le q = omega arith
  cut_above seen c (suc n) [] le q = omega arith
  cut_above seen c n (Enter s u ∷ l) le q = cut_above (one_more seen s) c n l (more_below c seen s le) q
  cut_above seen c zero (Seal s ∷ l) le q = omega arith
  cut_above seen c (suc n) (Seal s ∷ l) le q =
      let up = with_count_above c seen s le q in
      let ih = cut_above seen (with_count c s (seen s)) n l (with_count_below c seen s le) q in omega arith

  -- and never above the numbers of updates
  pub cut_below : (seen c : ℕ → ℕ) (n : ℕ) (l : List (Step U)) → ((q : ℕ) → c q ≤ seen q) → (q : ℕ) → cut_of c (take n (seals_from seen l)) q ≤ counts_after seen (entered l) q
  cut_below seen c zero [] le q = le q
  cut_below seen c (suc n) [] le q = le q
  cut_below seen c n (Enter s u ∷ l) le q = cut_below (one_more seen s) c n l (more_below c seen s le) q
  cut_below seen c zero (Seal s ∷ l) le q = cut_below seen c zero l le q
  cut_below seen c (suc n) (Seal s ∷ l) le q = cut_below seen (with_count c s (seen s)) n l (with_count_below c seen s le) q

  module _ (Meet : U → U → Type 0) where
    -- an update that stays unsealed meets none of another stream that is kept later
    pub stays_apart : (seen c : ℕ → ℕ) (n : ℕ) (l : List (Step U)) (unsealed : List (ℕ × U)) (s : ℕ) (u : U) (k : ℕ)
        → ((q : ℕ) → c q ≤ seen q) → k < seen s → Holds (s, u) unsealed → IsGuarded Meet unsealed l
        → cut_of c (take n (seals_from seen l)) s ≤ k
        → IsApart Meet s u (kept_from seen (cut_of c (take n (seals_from seen l))) (entered l))
    stays_apart seen c n [] unsealed s u k le lt i g lost = tt
    stays_apart seen c n (Enter r v ∷ l) unsealed s u k le lt i g lost =
        let rest = stays_apart (one_more seen r) c n l ((r, v) ∷ unsealed) s u k (more_below c seen r le) (let h = one_more_above seen r s in omega arith) (inr i) g.1 lost in
        let first : r ≢ s → Meet u v → ⊥ = λ ne. at_held (λ e. e.0 ≢ r → Meet e.1 v → ⊥) (s, u) unsealed g.0 i (λ q. ne (sym q)) in
        elim (ltb (seen r) (cut_of c (take n (seals_from (one_more seen r) l)) r))
        as (λ b. AllByRecursion (λ e. e.0 ≢ s → Meet u e.1 → ⊥) (keep_if b (r, v) (kept_from (one_more seen r) (cut_of c (take n (seals_from (one_more seen r) l))) (entered l))))
        [ true ↦ (first, rest) | false ↦ rest ]
    stays_apart seen c zero (Seal r ∷ l) unsealed s u k le lt i g lost =
        subst (λ z. AllByRecursion (λ e. e.0 ≢ s → Meet u e.1 → ⊥) z) (sym (kept_none seen c (entered l) le)) tt
    stays_apart seen c (suc n) (Seal r ∷ l) unsealed s u k le lt i g lost = elim (cases_eq r s) [
      | inl e ↦ absurd (
          let up = cut_above seen (with_count c r (seen r)) n l (with_count_below c seen r le) s in
          let here : with_count c r (seen r) s ≡ seen s = subst (λ z. with_count c r (seen r) z ≡ seen z) e (with_count_here c r (seen r)) in omega arith)
      | inr ne ↦ stays_apart seen (with_count c r (seen r)) n l (without r unsealed) s u k (with_count_below c seen r le) lt (held_without (s, u) r unsealed ne i) g lost
    ]

    closed_under : (seen c : ℕ → ℕ) (n : ℕ) (l : List (Step U)) (unsealed : List (ℕ × U))
        → ((q : ℕ) → c q ≤ seen q) → IsGuarded Meet unsealed l
        → IsClosedFrom Meet seen (cut_of c (take n (seals_from seen l))) (entered l)
    closed_under seen c n [] unsealed le g = tt
    closed_under seen c n (Enter s u ∷ l) unsealed le g = (
      (λ lost. stays_apart (one_more seen s) c n l ((s, u) ∷ unsealed) s u (seen s) (more_below c seen s le) (let h = one_more_here seen s in omega arith) (inl refl) g.1
          (ltb-false (seen s) (cut_of c (take n (seals_from (one_more seen s) l)) s) lost)),
      closed_under (one_more seen s) c n l ((s, u) ∷ unsealed) (more_below c seen s le) g.1,
    )
    closed_under seen c zero (Seal s ∷ l) unsealed le g = closed_under seen c zero l (without s unsealed) le g
    closed_under seen c (suc n) (Seal s ∷ l) unsealed le g = closed_under seen (with_count c s (seen s)) n l (without s unsealed) (with_count_below c seen s le) g

    -- the cut after the first n seals is closed
    pub closed_at : (l : List (Step U)) (n : ℕ) → IsGuarded Meet [] l → IsClosed Meet (entered l) (cut_at l n)
    closed_at l n g = closed_of Meet (cut_at l n) (entered l) (closed_under no_counts no_counts n l [] (λ q. let z : 0 ≤ no_counts q = omega arith in z) g)
