-- Seals of streams in rising order.
use Rattle.std.proofs.Common.{◌≡◌, ℕ, ◌+◌, [], ◌∷◌, sym, subst}
use Rattle.std.specs.Prelude.{Bool, true, false, filter}
use Rattle.std.specs.List.{range_with_len}
use Rattle.front_core.specs.Pending.{AreSealed}
use Rattle.front_core.specs.declared.pending.Pending.{Pending}
use Rattle.front_core.proofs.Rising.{below_on, below_off}
use Rattle.front_core.proofs.Sealing.{sealed_more}

pub sealed_on : (a b c : Pending) (p : ℕ → Bool) (r : ℕ) → p r ≡ true → AreSealed a (filter p (range_with_len 0 r)) b → AreSealed b (r ∷ []) c
    → AreSealed a (filter p (range_with_len 0 (r + 1))) c
sealed_on a b c p r on x y = subst (λ l. AreSealed a l c) (sym (below_on p r on)) (sealed_more a b c (filter p (range_with_len 0 r)) (r ∷ []) x y)

pub sealed_off : (a b : Pending) (p : ℕ → Bool) (r : ℕ) → p r ≡ false → AreSealed a (filter p (range_with_len 0 r)) b → AreSealed a (filter p (range_with_len 0 (r + 1))) b
sealed_off a b p r off x = subst (λ l. AreSealed a l b) (sym (below_off p r off)) x
