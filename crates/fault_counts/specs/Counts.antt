-- Counts of faults and of bytes, which never fall, and what an answer says of them.
use Rattle.std.specs.Prelude.{ℕ, ◌+◌, ◌-◌, ◌^◌, ◌≤◌, min, Result, OnErr}

-- one more, but at the last value of its type, where the count stays: 4 becomes 5, and 2 ^ 64 - 1 stays
abbrev pub raised : ℕ → ℕ
raised count = min (count + 1) (2 ^ 64 - 1)

-- the count rose, or stands at its last value: from 4 to 5, to 6 and so on, but not from 4 to 4
abbrev pub Rose : ℕ → ℕ → Type 0
Rose before now = raised before ≤ now

-- the count of an object's faults in a call: it doesn't fall, and an `Err` comes only where it rose
pub record HasCause {T E : Type 0} (before now : ℕ) (result : Result T E) : Type 0 where
  pub later : before ≤ now
  pub failed : OnErr result (Rose before now)

-- a count rose by at most n
pub record RisesBy (n before now : ℕ) : Type 0 where
  pub later : before ≤ now
  pub at_most : now ≤ before + n
