use Rattle.std.proofs.Common.{◌≡◌, ℕ, ◌<◌, true, get_or}
use Rattle.ccfs_base.specs.Names.{is_name_byte}
use Rattle.ccfs_base.proofs.naming.first_bad_byte.Given as goal

abbrev pub invariant-loop-place : goal.invariant-loop-place
invariant-loop-place l = (k : ℕ) → k < l.place → is_name_byte (get_or l.text k 0) ≡ true
