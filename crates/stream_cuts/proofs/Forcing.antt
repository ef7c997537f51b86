-- The seals before an update guard it.
use Rattle.std.proofs.Common.{◌≡◌, ℕ, zero, suc, ◌+◌, ◌≤◌, ◌<◌, ◌≢◌, ◌⊎◌, inl, inr, List, [], ◌∷◌, ◌++◌, refl, sym, ap, subst, arith, ◌∙◌, eqb, map}
use Rattle.std.specs.Prelude.{Bool, true, false, cond, not, ◌&&◌, ◌||◌}
use Rattle.std.specs.List.{AllByRecursion, filter, list_any, range_with_len}
use Rattle.std.proofs.lemmas.Bool.{eqb-false, eq-eqb, ne_eqb, cases_eq, and_from}
use Rattle.stream_cuts.specs.Streams.{Step, Enter, Seal, keep_if, entered, without, unsealed_after, IsGuarded}
use Rattle.stream_cuts.specs.Forced.{streams, Numbered, is_open, is_forced, sealed_before, entering, sealing}
use Rattle.stream_cuts.proofs.Closedness.{All_both}

abbrev pub Among : ℕ → List ℕ → Type 0
Among r [] = ⊥
Among r (q ∷ qs) = (q ≡ r) ⊎ Among r qs

pub among_filter : (test : ℕ → Bool) (r : ℕ) (qs : List ℕ) → test r ≡ true → Among r qs → Among r (filter test qs)
among_filter test r (q ∷ qs) p (inl e) = subst (λ b. Among r (cond b (q ∷ filter test qs) (filter test qs))) (sym (ap test e ∙ p)) (inl e)
among_filter test r (q ∷ qs) p (inr i) = let rest = among_filter test r qs p i in
    elim (test q) as (λ b. Among r (cond b (q ∷ filter test qs) (filter test qs))) [ true ↦ inr rest | false ↦ rest ]
among_filter test r [] p i = absurd i

among_append : (r : ℕ) (qs ps : List ℕ) → Among r qs → Among r (qs ++ ps)
among_append r [] ps i = absurd i
among_append r (q ∷ qs) ps (inl e) = inl e
among_append r (q ∷ qs) ps (inr i) = inr (among_append r qs ps i)

pub among_range : (n a r : ℕ) → a ≤ r → r < a + n → Among r (range_with_len a n)
among_range zero a r le lt = absurd (omega arith)
among_range (suc n) a r le lt = elim (cases_eq a r) [ inl e ↦ inl e | inr ne ↦ inr (among_range n (a + 1) r (omega arith) (omega arith)) ]

module _ {U : Type 0} where
  abbrev pub without_all : List ℕ → List (ℕ × U) → List (ℕ × U)
  without_all [] h = h
  without_all (r ∷ rs) h = without_all rs (without r h)

  guarded_seals : (Meet : U → U → Type 0) (rs : List ℕ) (h : List (ℕ × U)) (l : List (Step U)) → IsGuarded Meet (without_all rs h) l → IsGuarded Meet h (map Seal rs ++ l)
  guarded_seals Meet [] h l g = g
  guarded_seals Meet (r ∷ rs) h l g = guarded_seals Meet rs (without r h) l g

  all_without : (P Q : (ℕ × U) → Type 0) (r : ℕ) (h : List (ℕ × U)) → ((e : ℕ × U) → e.0 ≢ r → P e → Q e) → AllByRecursion P h → AllByRecursion Q (without r h)
  all_without P Q r [] f a = tt
  all_without P Q r (e ∷ h) f a = let rest = all_without P Q r h f a.1 in
      elim (eqb e.0 r) as (λ b. eqb e.0 r ≡ b → AllByRecursion Q (keep_if (not b) e (without r h))) [
        | true ↦ λ p. rest
        | false ↦ λ p. (f e (eqb-false e.0 r p) a.0, rest)
      ] refl

  -- a fact of the streams that are left, where those with it are closed
  pub all_closed : (Q : (ℕ × U) → Type 0) (rs : List ℕ) (h : List (ℕ × U)) → AllByRecursion (λ e. Q e ⊎ Among e.0 rs) h → AllByRecursion Q (without_all rs h)
  all_closed Q [] [] a = tt
  all_closed Q [] (e ∷ h) a = ((elim a.0 [ inl q ↦ q | inr i ↦ absurd i ]), all_closed Q [] h a.1)
  all_closed Q (r ∷ rs) h a = all_closed Q rs (without r h)
      (all_without (λ e. Q e ⊎ Among e.0 (r ∷ rs)) (λ e. Q e ⊎ Among e.0 rs) r h
      (λ e ne p. elim p [ inl q ↦ inl q | inr i ↦ elim i [ inl same ↦ absurd (ne (sym same)) | inr j ↦ inr j ] ]) a)

  any_there : (test : (ℕ × U) → Bool) (h : List (ℕ × U)) → list_any test h ≡ false → AllByRecursion (λ e. test e ≡ false) h
  any_there test [] p = tt
  any_there test (e ∷ h) p = elim (test e) as (λ b. test e ≡ b → (b || list_any test h) ≡ false → (test e ≡ false) × AllByRecursion (λ d. test d ≡ false) h) [
    | true ↦ λ q r. absurd (cc)
    | false ↦ λ q r. (q, any_there test h r)
  ] refl p

  any_hit : (test : (ℕ × U) → Bool) (e : ℕ × U) (h : List (ℕ × U)) → test e ≡ true → list_any test (e ∷ h) ≡ true
  any_hit test e h p = ap (λ b. b || list_any test h) p

  any_later : (test : (ℕ × U) → Bool) (e : ℕ × U) (h : List (ℕ × U)) → list_any test h ≡ true → list_any test (e ∷ h) ≡ true
  any_later test e h p = elim (test e) as (λ b. (b || list_any test h) ≡ true) [ true ↦ refl | false ↦ p ]

  pub each_of : (P : (ℕ × U) → Type 0) (whole h : List (ℕ × U)) → ((test : (ℕ × U) → Bool) → list_any test h ≡ true → list_any test whole ≡ true)
      → ((e : ℕ × U) → ((test : (ℕ × U) → Bool) → test e ≡ true → list_any test whole ≡ true) → P e) → AllByRecursion P h
  each_of P whole [] sub f = tt
  each_of P whole (e ∷ h) sub f = (f e (λ test p. sub test (any_hit test e h p)), each_of P whole h (λ test p. sub test (any_later test e h p)) f)

  pub entering_guarded : (meets : U → U → Bool) (s : ℕ) (u : U) (own : Bool) (h : List (ℕ × U)) → Numbered h
      → IsGuarded (λ a b. meets a b ≡ true) h (entering meets s u own h)
  entering_guarded meets s u own h num =
      guarded_seals (λ a b. meets a b ≡ true) (sealed_before meets s u own h) h (Enter s u ∷ []) (
        all_closed (λ e. e.0 ≢ s → meets e.1 u ≡ true → ⊥) (sealed_before meets s u own h) h
            (All_both (λ e. e.0 < 64) (λ e. (r : e.0 < 64) → (e.0 ≢ s → meets e.1 u ≡ true → ⊥) ⊎ Among e.0 (sealed_before meets s u own h)) (λ e. (e.0 ≢ s → meets e.1 u ≡ true → ⊥) ⊎ Among e.0 (sealed_before meets s u own h)) (λ e lt f. f lt) h num (each_of (λ e. (r : e.0 < 64) → (e.0 ≢ s → meets e.1 u ≡ true → ⊥) ⊎ Among e.0 (sealed_before meets s u own h)) h h (λ test p. p)
            (λ e sure lt. elim (cases_eq e.0 s) [
              | inl same ↦ inl (λ ne m. ne same)
              | inr ne ↦ elim (meets e.1 u) as (λ b. meets e.1 u ≡ b → (e.0 ≢ s → b ≡ true → ⊥) ⊎ Among e.0 (sealed_before meets s u own h)) [
                | true ↦ λ m. inr (among_append e.0 (filter (is_forced meets s u h) streams) _
                    (among_filter (is_forced meets s u h) e.0 streams
                    (ap (λ b. not b && list_any (λ d. eqb d.0 e.0 && meets d.1 u) h) (ne_eqb e.0 s ne)
                    ∙ sure (λ d. eqb d.0 e.0 && meets d.1 u) (and_from (eqb e.0 e.0) (meets e.1 u) (eq-eqb e.0 e.0 refl) m))
                    (among_range 64 0 e.0 (omega arith) (omega arith))))
                | false ↦ λ m. inl (λ n bad. absurd (cc))
              ] refl
            ]))),
        tt,
      )

  -- steps that are guarded on what those before leave unsealed are guarded behind them
  pub guarded_append : (Meet : U → U → Type 0) (h : List (ℕ × U)) (l k : List (Step U)) → IsGuarded Meet h l → IsGuarded Meet (unsealed_after h l) k → IsGuarded Meet h (l ++ k)
  guarded_append Meet h [] k a b = b
  guarded_append Meet h (Enter s u ∷ l) k a b = (a.0, guarded_append Meet ((s, u) ∷ h) l k a.1 b)
  guarded_append Meet h (Seal s ∷ l) k a b = guarded_append Meet (without s h) l k a b

  -- seals alone are guarded
  pub seals_guarded : (Meet : U → U → Type 0) (h : List (ℕ × U)) (rs : List ℕ) → IsGuarded Meet h (map Seal rs)
  seals_guarded Meet h [] = tt
  seals_guarded Meet h (r ∷ rs) = seals_guarded Meet (without r h) rs

  pub numbered_without : (r : ℕ) (h : List (ℕ × U)) → Numbered h → Numbered (without r h)
  numbered_without r [] n = tt
  numbered_without r (e ∷ h) n = let rest = numbered_without r h n.1 in elim (eqb e.0 r) as (λ b. Numbered (keep_if (not b) e (without r h))) [ true ↦ rest | false ↦ (n.0, rest) ]

  -- what is unsealed stays in numbered streams, where updates enter those alone
  pub numbered_after : (h : List (ℕ × U)) (l : List (Step U)) → Numbered h → Numbered (entered l) → Numbered (unsealed_after h l)
  numbered_after h [] n m = n
  numbered_after h (Enter s u ∷ l) n m = numbered_after ((s, u) ∷ h) l (m.0, n) m.1
  numbered_after h (Seal s ∷ l) n m = numbered_after (without s h) l (numbered_without s h n) m

  -- an entry's steps enter its update alone, and seals enter none
  pub entered_seals : (rs : List ℕ) (l : List (Step U)) → entered (map Seal rs ++ l) ≡ entered l
  entered_seals [] l = refl
  entered_seals (r ∷ rs) l = entered_seals rs l

  pub seals_leave : (rs : List ℕ) (h : List (ℕ × U)) → unsealed_after h (map Seal rs) ≡ without_all rs h
  seals_leave [] h = refl
  seals_leave (r ∷ rs) h = seals_leave rs (without r h)

  none_of_no : (h : List (ℕ × U)) → AllByRecursion (λ e. ⊥) h → h ≡ []
  none_of_no [] a = refl
  none_of_no (e ∷ h) a = absurd a.0

  -- sealing all streams leaves nothing unsealed
  pub sealing_all : (h : List (ℕ × U)) → Numbered h → unsealed_after h (sealing streams h) ≡ []
  sealing_all h num =
      let rs : List ℕ = filter (is_open h) streams in
      seals_leave rs h
      ∙ none_of_no (without_all rs h) (all_closed (λ e. ⊥) rs h (All_both (λ e. e.0 < 64) (λ e. e.0 < 64 → ⊥ ⊎ Among e.0 rs) (λ e. ⊥ ⊎ Among e.0 rs) (λ e lt f. f lt) h num
      (each_of (λ e. e.0 < 64 → ⊥ ⊎ Among e.0 rs) h h (λ test p. p)
      (λ e sure lt. inr (among_filter (is_open h) e.0 streams (sure (λ d. eqb d.0 e.0) (eq-eqb e.0 e.0 refl)) (among_range 64 0 e.0 (omega arith) (omega arith)))))))

  -- entering enters the update alone
  pub entered_entering : (meets : U → U → Bool) (s : ℕ) (u : U) (own : Bool) (h : List (ℕ × U)) → entered (entering meets s u own h) ≡ (s, u) ∷ []
  entered_entering meets s u own h = entered_seals (sealed_before meets s u own h) (Enter s u ∷ [])

  -- sealing enters nothing
  pub entered_sealing : (rs : List ℕ) (h : List (ℕ × U)) → entered (sealing rs h) ≡ []
  entered_sealing rs h = none_entered (filter (is_open h) rs)
    where
      none_entered : (qs : List ℕ) → entered {U = U} (map Seal qs) ≡ []
      none_entered [] = refl
      none_entered (q ∷ qs) = none_entered qs
