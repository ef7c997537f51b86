-- What holds of volumes that carry trees.
use Rattle.std.specs.Prelude.{◌≡◌, None, List, ℕ, length}
use Rattle.block_layout.specs.declared.geometry.Geometry.{Geometry}
use Rattle.tree_model.specs.Rows.{Rows}
use Rattle.image_model.specs.Reading.{IsWhole}
use Rattle.image_model.specs.Volumes.{Volume, volume_of, table_of}
use Rattle.image_model.specs.Files.{file_bytes}
use Rattle.image_model.specs.Checks.{IsBare, first_failure_for_now}
use Rattle.image_model.specs.Trees.{inodes_of, tree_of}
use Rattle.image_model.specs.Carrying.{Carries}
use Rattle.carried_volumes.specs.Plain.{IsDense}
use Rattle.carried_volumes.specs.Carried.{Carried, HaveInodes}

-- such a volume passes all checks but that of the batch number, also those that are made until files have bytes and may stay open
-- without a name, and its tree is this one up to serials
abbrev pub CarriedVolumesStand : Type 0
CarriedVolumesStand = (v : Volume) (t : Rows) (inodes : List ℕ) → Carried v t inodes → Carries v t inodes × IsBare (table_of v)

-- What is known of an opened volume: it carries its tree, whose serials are those below the number of its inodes.
pub record IsOpened (v : Volume) (t : Rows) (inodes : List ℕ) : Type 0 where
  pub carried : Carried v t inodes
  pub have : HaveInodes v.inodes inodes t
  pub dense : IsDense t (length inodes)

-- a volume that passes all those checks carries the tree that it stands for, with the inodes that it is read with
abbrev pub SoundVolumesAreOpened : Type 0
SoundVolumesAreOpened = (g : Geometry) (bytes : List ℕ) → IsWhole g bytes → first_failure_for_now None (volume_of g bytes) ≡ None
    → IsOpened (volume_of g bytes) (tree_of (volume_of g bytes)) (inodes_of (table_of (volume_of g bytes)) (file_bytes (volume_of g bytes)))
