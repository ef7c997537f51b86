use Rattle.std.proofs.Common.{◌≡◌, ℕ, ◌<◌, vec_len}
use Rattle.std.specs.Prelude.{None, slice_index_or}
use Rattle.image_model.specs.Reading.{table_in}
use Rattle.image_check.specs.Tables.{attr_kept}
use Rattle.image_check.proofs.table.read_attrs.Given as goal

-- the attributes of all inodes so far are there
abbrev pub invariant-loop-inode : goal.invariant-loop-inode
invariant-loop-inode l = record {
  long : vec_len l.attrs ≡ l.inode;
  each : (inode : ℕ) → inode < l.inode → slice_index_or l.attrs.items inode None ≡ attr_kept (table_in l.geometry l.volume) inode;
}
