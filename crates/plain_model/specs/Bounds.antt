-- The bounds within which the numbers of a session fit its machine words.
use Rattle.std.specs.Prelude.{ℕ, ◌≤◌, Bool, true}
use Rattle.std.specs.declared.option.Option.{Option}
use Rattle.std.specs.declared.option.Option.TheVariants.{None, Some}
use Rattle.ccfs_base.specs.Limits.{file_max}
use Rattle.tree_model.specs.declared.rows.Update.{Update}
use Rattle.tree_model.specs.Rows.{Rows}
use Rattle.tree_model.specs.Tests.{applies}
use Rattle.tree_model.specs.Weights.{length_at}

-- no file is longer than a file may be
abbrev pub FilesFit : Rows → Type 0
FilesFit t = (x : ℕ) → length_at t x ≤ file_max

-- the greatest number of a sum; a larger sum is told as this one
abbrev pub most : ℕ
most = 340282366920938463463374607431768211455

-- an update applies, where there is one
abbrev pub applies_if : Rows → Option Update → Bool
applies_if t None = true
applies_if t (Some u) = applies t u
