-- Steps without their charges: what they enter, and that they are guarded where the charged ones are.
use Rattle.std.proofs.Common.{◌≡◌, ℕ, ◌≢◌, List, [], ◌∷◌, ◌++◌, refl, sym, ap, subst, ◌∙◌, eqb}
use Rattle.std.specs.Prelude.{true, false, not}
use Rattle.std.specs.List.{AllByRecursion}
use Rattle.stream_cuts.specs.Streams.{Step, Enter, Seal, entered, keep_if, without, unsealed_after, IsGuarded}
use Rattle.tree_model.specs.declared.rows.Update.{Update}
use Rattle.tree_model.specs.Laws.{Meet}
use Rattle.tree_cuts.specs.Calls.{Charged, charged_meets, plain_step, plain}

abbrev pub ChargedMeet : Charged → Charged → Type 0
ChargedMeet a b = charged_meets a b ≡ true

-- updates without their charges
abbrev pub bare : List (ℕ × Charged) → List (ℕ × Update)
bare [] = []
bare (e ∷ h) = (e.0, e.1.0) ∷ bare h

pub plain_append : (l k : List (Step Charged)) → plain (l ++ k) ≡ plain l ++ plain k
plain_append [] k = refl
plain_append (e ∷ l) k = ap (λ z. plain_step e ∷ z) (plain_append l k)

pub plain_entered : (l : List (Step Charged)) → entered (plain l) ≡ bare (entered l)
plain_entered [] = refl
plain_entered (Enter s u ∷ l) = ap (λ z. (s, u.0) ∷ z) (plain_entered l)
plain_entered (Seal s ∷ l) = plain_entered l

bare_without : (s : ℕ) (h : List (ℕ × Charged)) → bare (without s h) ≡ without s (bare h)
bare_without s [] = refl
bare_without s (e ∷ h) = let ih = bare_without s h in
    elim (eqb e.0 s) as (λ b. bare (keep_if (not b) e (without s h)) ≡ keep_if (not b) (e.0, e.1.0) (without s (bare h))) [
      | true ↦ ih
      | false ↦ ap (λ z. (e.0, e.1.0) ∷ z) ih
    ]

pub plain_unsealed : (h : List (ℕ × Charged)) (l : List (Step Charged)) → unsealed_after (bare h) (plain l) ≡ bare (unsealed_after h l)
plain_unsealed h [] = refl
plain_unsealed h (Enter s u ∷ l) = plain_unsealed ((s, u) ∷ h) l
plain_unsealed h (Seal s ∷ l) = ap (λ z. unsealed_after z (plain l)) (sym (bare_without s h)) ∙ plain_unsealed (without s h) l

may_enter : (s : ℕ) (u : Charged) (h : List (ℕ × Charged)) → AllByRecursion (λ e. e.0 ≢ s → ChargedMeet e.1 u → ⊥) h
    → AllByRecursion (λ e. e.0 ≢ s → Meet e.1 u.0 → ⊥) (bare h)
may_enter s u [] a = tt
may_enter s u (e ∷ h) a = (a.0, may_enter s u h a.1)

pub plain_guarded : (h : List (ℕ × Charged)) (l : List (Step Charged)) → IsGuarded ChargedMeet h l → IsGuarded Meet (bare h) (plain l)
plain_guarded h [] g = tt
plain_guarded h (Enter s u ∷ l) g = (may_enter s u h g.0, plain_guarded ((s, u) ∷ h) l g.1)
plain_guarded h (Seal s ∷ l) g = subst (λ z. IsGuarded Meet z (plain l)) (bare_without s h) (plain_guarded (without s h) l g)
