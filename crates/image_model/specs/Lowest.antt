-- The lowest number that passes a test.
use Rattle.std.specs.Prelude.{◌≡◌, ℕ, zero, suc, ◌<◌, Bool, true, false, cond, Option, Some, None}
use Rattle.std.specs.Option.{option_or}

-- the lowest number below n that passes, and nothing where none does: of the multiples of 3 from 1
-- on it is 3 below 7, and nothing below 3
abbrev pub lowest : (ℕ → Bool) → ℕ → Option ℕ
lowest test zero = None
lowest test (suc n) = option_or (lowest test n) (cond (test n) (Some n) None)

-- no number below n passes
abbrev pub NoneBelow : (ℕ → Bool) → ℕ → Type 0
NoneBelow test n = (i : ℕ) → i < n → test i ≡ false

-- this one passes, and none below it
pub record IsLowest (test : ℕ → Bool) (n i : ℕ) : Type 0 where
  pub within : i < n
  pub passes : test i ≡ true
  pub least : NoneBelow test i
