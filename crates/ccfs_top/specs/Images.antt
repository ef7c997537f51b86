-- What a run finds on a disk.
use Rattle.std.specs.Prelude.{◌≡◌, ℕ, ◌-◌, Some, List}
use Rattle.tree_model.specs.Rows.{Rows}
use Rattle.atomic_volume.specs.Opening.{Contents, opened}
use Rattle.image_check.specs.declared.kinds.BadKind.{BadKind}
use Rattle.recovery.specs.Recovering.{recovered_for_now}
use Rattle.block_layout.specs.Sizes.{data_start}
use Rattle.tree_cuts.specs.Calls.{Sizes}
use Rattle.recovery.specs.Bad.{IsBad}

-- An image as a run counts with it: the number and the tree that it recovers to, and its data blocks and inodes.
pub record Image : Type 0 where
  pub number : ℕ
  pub tree : Rows
  pub sizes : Sizes

-- these bytes are that image
pub record IsImage (image : Image) (c : List ℕ) : Type 0 where
  pub recovers : recovered_for_now c ≡ Some (image.number, image.tree)
  pub contents : Contents
  pub opens : opened c ≡ Some contents
  pub sizes_are : image.sizes ≡ record { data_blocks = contents.blocks - data_start contents.inodes; inodes = contents.inodes }

-- What is found: something to go on with, or an image that is bad so in that block. Or nothing was read, since the disk
-- failed or memory was wanting first.
pub data Finding (A : Type 0) : Type 0 where
  Good : (a : A) → Finding A
  Spoilt : (kind : BadKind) (block : ℕ) → Finding A
  Unread : Finding A

-- what was found are these bytes, where P says when something is right of them
abbrev pub Finds : {A : Type 0} → (A → List ℕ → Type 0) → List ℕ → Finding A → Type 0
Finds P c (Good a) = P a c
Finds P c (Spoilt kind block) = IsBad c kind block
Finds P c Unread = Unit {0}

-- an image that recovers to a number and a tree
abbrev pub RecoversTo : ℕ × Rows → List ℕ → Type 0
RecoversTo p c = recovered_for_now c ≡ Some p
