use Rattle.std.proofs.Common.{◌≡◌, ◌++◌}
use Rattle.std.specs.Prelude.{reverse, map}
use Rattle.std.specs.Slice.Iter.{iter_rest}
use Rattle.image_check.proofs.listing.put_ahead.Given as goal

abbrev pub invariant-loop-entry : goal.invariant-loop-entry
invariant-loop-entry l = l.ahead.items ++ reverse (map (λ inode. (l.levels, inode)) (iter_rest l.entry-iterator.iter)) ≡ l.fn.ahead.items ++ reverse (map (λ inode. (l.levels, inode)) l.entries)
