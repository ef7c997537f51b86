-- Where the pages of files stand.
use Rattle.std.specs.Prelude.{◌≡◌, ℕ, ◌+◌, ◌≤◌, Option, List, [], ◌∷◌, ◌++◌, length, map, take, drop, slice_index, slice_index_or}
use Rattle.ccfs_base.specs.Limits.{file_max, pages}
use Rattle.block_maps.specs.Uses.{block_count, place_of, given_uses}

-- One file: its length in bytes, and the numbers of its blocks in the order of their uses.
pub record Mapped : Type 0 where
  pub len : ℕ
  pub blocks : List ℕ

-- a file of no bytes
abbrev pub no_file : Mapped
no_file = record { len = 0; blocks = [] }

-- the file of an inode, and one of no bytes past the last inode
abbrev pub file_at : List Mapped → ℕ → Mapped
file_at files inode = slice_index_or files inode no_file

-- the block of a use, and 0 where the file has none
abbrev pub block_of : Mapped → Option ℕ → ℕ
block_of file purpose = slice_index file.blocks (place_of purpose)

-- the file with a block at a place in the order of uses, over the one there or behind the last: [7, 8] with 9 at 1 is [7, 9],
-- and with 9 at 2 it is [7, 8, 9]
abbrev pub with_block : Mapped → ℕ → ℕ → Mapped
with_block file place block = record file { blocks = take place file.blocks ++ block ∷ drop (place + 1) file.blocks }

-- A file has just the blocks that its length takes, and is no longer than the greatest file.
pub record IsWhole (file : Mapped) : Type 0 where
  pub blocks : length file.blocks ≡ block_count (pages file.len)
  pub len : file.len ≤ file_max

-- the blocks that a file gives up that had `low` pages when it was shortest, in the order of their uses
abbrev pub given_blocks : Mapped → ℕ → List ℕ
given_blocks file low = map (block_of file) (given_uses low (pages file.len))

-- the file with that length, with the blocks that it keeps and behind them new ones: of the blocks [7, 8, 9] of three pages with
-- `low` 1 and the new ones [5] they are [7, 5]
abbrev pub placed_file : Mapped → ℕ → ℕ → List ℕ → Mapped
placed_file file low len new = record { len = len; blocks = take (block_count low) file.blocks ++ new }
