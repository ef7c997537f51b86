-- Images that were just made.
use Rattle.std.specs.Prelude.{◌≡◌, ℕ, ◌+◌, ◌-◌, ◌*◌, ◌<◌, Some, None, List, ◌++◌, length, take, replicate, slice_index}
use Rattle.tree_model.specs.Rows.{alone}
use Rattle.block_layout.specs.declared.geometry.Geometry.{Geometry}
use Rattle.block_layout.specs.Sizes.{block_size, volume_start}
use Rattle.block_layout.specs.Super.{super_bytes}
use Rattle.atomic_volume.specs.Opening.{Contents, volume_place, opened}
use Rattle.image_model.specs.Fresh.{fresh_byte}
use Rattle.recovery.specs.Recovering.{recovered_for_now}

-- so many bytes in front of an image: the superblock of these sizes, and zeros behind it. Of 16,384 bytes 36 are the superblock,
-- and 16,348 are zeros
abbrev pub front_bytes : Geometry → ℕ → List ℕ
front_bytes geometry size = super_bytes geometry.blocks geometry.inodes ++ replicate (size - 36) 0

-- An image of these sizes with no open batch, which recovers to the root alone with the number 0. It has just these bytes: the
-- superblock, a master byte of 0 and the closed gates of both halves in front, and the metadata of a fresh volume. What the record
-- areas and the data blocks hold is free.
pub record IsFresh (geometry : Geometry) (c : List ℕ) : Type 0 where
  pub long : length c ≡ block_size * geometry.blocks
  pub front : take 16384 c ≡ front_bytes geometry 16384
  pub tables : (x : ℕ) → x < block_size * (geometry.first_data - volume_start) → slice_index c (volume_place + x) ≡ fresh_byte geometry.blocks geometry.inodes x
  pub contents : Contents
  pub opens : opened c ≡ Some contents
  pub blocks : contents.blocks ≡ geometry.blocks
  pub inodes : contents.inodes ≡ geometry.inodes
  pub no_batch : contents.last ≡ None
  pub tree : recovered_for_now c ≡ Some (0, alone 0)

-- What is written in front of the data blocks: all metadata of a fresh volume. Of 512 blocks and 32 inodes they are 6 blocks.
pub record AreTables (geometry : Geometry) (bytes : List ℕ) : Type 0 where
  pub long : length bytes ≡ block_size * (geometry.first_data - volume_start)
  pub fresh : (x : ℕ) → x < length bytes → slice_index bytes x ≡ fresh_byte geometry.blocks geometry.inodes x
