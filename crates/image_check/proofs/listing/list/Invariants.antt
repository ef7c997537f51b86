use Rattle.std.proofs.Common.{◌≡◌, ◌++◌, length}
use Rattle.flat_dirs.specs.Slots.{entries_in}
use Rattle.image_check.specs.Listed.{listed}
use Rattle.image_check.proofs.Ahead.{still}
use Rattle.image_check.proofs.listing.list.Given as goal

-- what was listed, and what is ahead, are all
abbrev pub invariant-loop-levels : goal.invariant-loop-levels
invariant-loop-levels l = record { all : l.inodes ++ still (entries_in l.table.slots) l.ahead.items ≡ listed (entries_in l.table.slots) l.table.used.count 0 }

abbrev pub decreases-loop-levels : goal.decreases-loop-levels
decreases-loop-levels l = length (still (entries_in l.table.slots) l.ahead.items)
