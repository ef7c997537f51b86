-- How time goes on in a call of a disk in memory.
use Rattle.std.proofs.Common.{◌⊎◌, ℕ, List, ◌∷◌, length, inl, inr, arith}
use Rattle.disk_model.specs.Moments.{Elapses}
use Rattle.disk_model.specs.History.{LeftSince}
use Rattle.disk_model.specs.Past.{LeftSince-earlier}
use Rattle.disk_model.specs.declared.operation.Operation.{Operation}

-- a call that performs nothing takes no time
pub elapses_not : (start : List ℕ) (past : List Operation) → Elapses (length past) (length past) (LeftSince start past) (LeftSince start past)
elapses_not start past = record { later = omega arith; nothing_else = λ t c le left. inl left; keeps = λ t c le left. left; earlier = LeftSince-earlier start past }

-- a call that performs an operation
pub elapses_by : (start : List ℕ) (past : List Operation) (operation : Operation) → Elapses (length past) (length (operation ∷ past)) (LeftSince start past) (LeftSince start (operation ∷ past))
elapses_by start past operation = record {
  later = omega arith;
  nothing_else = λ t c le left. split t c left;
  keeps = λ t c le left. inr (le, left);
  earlier = LeftSince-earlier start (operation ∷ past);
}
  where
    split : (t : ℕ) (c : List ℕ) → LeftSince start (operation ∷ past) t c → LeftSince start past t c ⊎ LeftSince start (operation ∷ past) (length past) c
    split t c (inl now) = inr (inl now)
    split t c (inr before) = inl before.1
