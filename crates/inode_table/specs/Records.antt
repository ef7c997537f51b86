-- Where the records of inodes stand.
use Rattle.std.specs.Prelude.{ℕ, ◌+◌, ◌-◌, ◌*◌, ◌/◌, ◌%◌}
use Rattle.block_layout.specs.Sizes.{block_size, volume_start, inode_table_start}

-- the bytes of a record
abbrev pub record_size : ℕ
record_size = 256

-- how many records stand in a block
abbrev pub records_per_block : ℕ
records_per_block = 16

-- the block of the image in which the record of an inode stands: of inode 17 it is block 264
abbrev pub record_block : ℕ → ℕ
record_block inode = inode_table_start + inode / records_per_block

-- where in the volume the record of an inode begins, in bytes: of inode 17 it is byte 256 of block 264, which is the
-- byte 16,640 of the volume
abbrev pub record_offset : ℕ → ℕ
record_offset inode = block_size * (record_block inode - volume_start) + record_size * (inode % records_per_block)
