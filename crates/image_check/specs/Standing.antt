-- What a volume that passes its checks stands for.
use Rattle.std.specs.Prelude.{◌≡◌, ℕ, Option, None}
use Rattle.image_model.specs.Volumes.{Volume, table_of, number}
use Rattle.image_model.specs.Files.{file_bytes}
use Rattle.image_model.specs.Checks.{first_failure_for_now}
use Rattle.image_model.specs.Trees.{inodes_of, gone, tree_of}
use Rattle.image_check.specs.declared.placing.Placed.{Placed}

-- No check fails, `last` being the number of the last open batch, and all is told as the volume has it: of `/a` in inode 2 alone the
-- tree of `/a`, the inodes 0 2, no orphans, and the batch number.
pub record IsPlaced (last : Option ℕ) (v : Volume) (placed : Placed) : Type 0 where
  pub passes : first_failure_for_now last v ≡ None
  pub tree : placed.tree ≡ tree_of v
  pub inodes : placed.inodes ≡ inodes_of (table_of v) (file_bytes v)
  pub orphans : placed.orphans ≡ gone (table_of v) (file_bytes v)
  pub number : placed.number ≡ number v
