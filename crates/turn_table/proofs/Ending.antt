-- Callers whose seats ended in the first one.
use Rattle.std.proofs.Common.{◌≡◌, ℕ, zero, suc, ◌<◌, List, [], ◌∷◌, ◌++◌, refl, sym, subst, arith, inl, inr}
use Rattle.turn_table.specs.declared.view.Who.{Who}
use Rattle.turn_table.specs.declared.view.Who.TheVariants.{Caller}
use Rattle.turn_table.specs.declared.view.Ended.{Ended}
use Rattle.turn_table.specs.declared.view.View.{View}
use Rattle.turn_table.specs.Views.{ended_of, joined}
use Rattle.turn_table.specs.Told.{HasEnded, EndsToo}

has_more : {E : Type 0} (d : ℕ) (xs ys : List (Ended E)) → HasEnded d ys → HasEnded d (xs ++ ys)
has_more d [] ys has = has
has_more d (x ∷ xs) ys has = inr (has_more d xs ys has)

pub ends_too : {F B E : Type 0} (c : ℕ) (v w : View F B E) → w.who ≡ Caller c → EndsToo c v.ended (joined v w).ended
ends_too c v w who = subst (λ (x : Who). EndsToo c v.ended (ended_of x w ++ v.ended)) (sym who) (inl refl, λ d has. inr (has_more d w.ended v.ended has))

pub below_four : (P : ℕ → Type 0) → P 0 → P 1 → P 2 → P 3 → (c : ℕ) → c < 4 → P c
below_four P a b c d zero lt = a
below_four P a b c d (suc zero) lt = b
below_four P a b c d (suc (suc zero)) lt = c
below_four P a b c d (suc (suc (suc zero))) lt = d
below_four P a b c d (suc (suc (suc (suc n)))) lt = absurd (omega arith)
