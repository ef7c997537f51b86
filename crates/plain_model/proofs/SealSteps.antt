-- Seals of streams, on lists of unsealed updates.
use Rattle.std.proofs.Common.{◌≡◌, ℕ, suc, List, [], ◌∷◌, ◌++◌, true, false, cond, not, eqb, map, length, refl, ap}
use Rattle.std.specs.List.{filter}
use Rattle.stream_cuts.specs.Streams.{Enter, Seal, keep_if, without, unsealed_after}
use Rattle.tree_cuts.specs.Calls.{Charged}
use Rattle.history_model.specs.Answers.{closes}

pub rest_without : (s : ℕ) (es : List (ℕ × Charged)) → filter (λ (e : ℕ × Charged). not (eqb e.0 s)) es ≡ without s es
rest_without s [] = refl
rest_without s (e ∷ es) = let h = rest_without s es in elim (eqb e.0 s) as (λ b. cond (not b) (e ∷ filter (λ (x : ℕ × Charged). not (eqb x.0 s)) es) (filter (λ (x : ℕ × Charged). not (eqb x.0 s)) es) ≡ keep_if (not b) e (without s es)) [
  | true ↦ h
  | false ↦ ap (λ z. e ∷ z) h
]

-- what is unsealed once streams are sealed and an update enters
pub entered_after : (u : List (ℕ × Charged)) (l : List ℕ) (s : ℕ) (x : Charged) → unsealed_after u (map Seal l ++ Enter s x ∷ []) ≡ (s, x) ∷ unsealed_after u (map Seal l)
entered_after u [] s x = refl
entered_after u (r ∷ l) s x = entered_after (without r u) l s x

-- its seals are those of the streams
pub closes_entered : (l : List ℕ) (s : ℕ) (x : Charged) → closes (map Seal l ++ Enter s x ∷ []) ≡ length l
closes_entered [] s x = refl
closes_entered (r ∷ l) s x = ap (λ n. suc n) (closes_entered l s x)
