-- What one operation after another does to the lengths of files.
use Rattle.std.specs.Prelude.{ℕ, min, List}
use Rattle.ccfs_base.specs.Limits.{pages}
use Rattle.file_bodies.specs.declared.ops.BodyOp.{BodyOp}
use Rattle.late_alloc.specs.Lengths.{length_by}
use Rattle.block_maps.specs.Maps.{Mapped, file_at}
use Rattle.late_alloc.specs.declared.changes.Reach.{Reach}

-- before all operations a file has been as short as it is
abbrev pub started : List Mapped → ℕ → Reach
started files inode = record { inode = inode; least = pages (file_at files inode).len; end = (file_at files inode).len }

-- after one operation more on the file: 30 pages that are cut to 24 have the least pages 24 and the end 98,304
abbrev pub stepped : BodyOp → Reach → Reach
stepped op reach = record { inode = reach.inode; least = min reach.least (pages (length_by op reach.end)); end = length_by op reach.end }
