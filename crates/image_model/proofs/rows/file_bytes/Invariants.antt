use Rattle.std.proofs.Common.{◌≡◌}
use Rattle.std.specs.List.{range_with_len, flat_map}
use Rattle.image_model.specs.declared.pointer.Pointer.TheVariants.{Page}
use Rattle.image_model.specs.Volumes.{volume_of, block_bytes}
use Rattle.image_model.specs.Files.{named}
use Rattle.image_model.proofs.rows.file_bytes.Given as goal

-- the pages so far stand one behind the other
abbrev pub invariant-loop-page : goal.invariant-loop-page
invariant-loop-page l =
    l.contents.items ≡ flat_map (λ page. block_bytes (volume_of l.geometry l.bytes) (named (volume_of l.geometry l.bytes) (Page l.inode page))) (range_with_len 0 l.page)
