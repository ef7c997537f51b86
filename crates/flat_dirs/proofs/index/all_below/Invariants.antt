use Rattle.std.proofs.Common.{◌≡◌, ◌++◌}
use Rattle.std.proofs.Common.{map as map_list}
use Rattle.flat_dirs.specs.Index.{SlotKey}
use Rattle.flat_dirs.proofs.Listing.{run, from_dir}
use Rattle.flat_dirs.proofs.index.all_below.Given as goal

abbrev pub invariant-loop-place : goal.invariant-loop-place
invariant-loop-place l = l.inodes.items ++ map_list (λ (k : SlotKey). k.2) (run l.parent l.place-iterator) ≡ map_list (λ (k : SlotKey). k.2) (run l.parent (from_dir l.parent l.places.keys))
