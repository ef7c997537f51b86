-- Runs of calls on one disk.
use Rattle.std.specs.Prelude.{ℕ, List}
use Rattle.disk_model.specs.Moments.{Elapses}

-- Time went on from old to new, and a crash at any moment since old leaves an image that has P. So two such runs, one
-- after the other, are one.
pub record Leaves {D : Type 0} (moment : D → ℕ) (left_since : D → ℕ → List ℕ → Type 0) (old new : D) (P : List ℕ → Type 0) : Type 0 where
  pub time : Elapses (moment old) (moment new) (left_since old) (left_since new)
  pub each : (c : List ℕ) → left_since new (moment old) c → P c
