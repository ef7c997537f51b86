-- A fresh volume.
use Rattle.std.specs.Prelude.{◌≡◌, ℕ, ◌-◌, ◌<◌, cond, ◌||◌, ◌==◌, nat_lt, List, ◌++◌, slice_index}
use Rattle.byteorder.specs.Endian.{little_bytes}
use Rattle.block_layout.specs.Sizes.{data_start}
use Rattle.inode_table.specs.Records.{record_offset}
use Rattle.image_model.specs.Fields.{block_place, inode_bits}
use Rattle.image_model.specs.Volumes.{Volume, first_data}

-- the 28 bytes of the counters: the number 0, all data blocks free, all inodes but two free, and the format 1. Of 512 blocks
-- and 32 inodes they are eight zeros, then 246, then 30, then 1
abbrev pub fresh_counters : ℕ → ℕ → List ℕ
fresh_counters blocks inodes =
    little_bytes 8 0 ++ (little_bytes 8 (blocks - data_start inodes) ++ (little_bytes 8 (inodes - 2) ++ little_bytes 4 1))

-- the byte at a place of the metadata: the counters, bits 0 and 1 of the inodes, and the kind 1 in the first two records; all
-- others are zeros, as those of the bits of data blocks and those of slots
abbrev pub fresh_byte : ℕ → ℕ → ℕ → ℕ
fresh_byte blocks inodes x =
    cond (nat_lt x 28)
    (slice_index (fresh_counters blocks inodes) x)
    (cond (x == block_place inode_bits) 3 (cond (x == record_offset 0 || x == record_offset 1) 1 0))

-- A volume with that metadata. Its data blocks may hold anything.
pub record IsFresh (v : Volume) : Type 0 where
  pub bytes : (x : ℕ) → x < block_place (first_data v) → slice_index v.bytes x ≡ fresh_byte v.blocks v.inodes x
