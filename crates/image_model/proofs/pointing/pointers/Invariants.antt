use Rattle.std.proofs.Common.{◌≡◌}
use Rattle.std.specs.List.{range_with_len, flat_map}
use Rattle.image_model.specs.Files.{pointers_at}
use Rattle.image_model.specs.Reading.{table_in}
use Rattle.image_model.proofs.pointing.pointers.Given as goal

-- the pointers of the inodes so far are listed
abbrev pub invariant-loop-inode : goal.invariant-loop-inode
invariant-loop-inode l = l.list.items ≡ flat_map (pointers_at (table_in l.geometry l.bytes)) (range_with_len 0 l.inode)
