-- Maps with one file changed, and the pointers of a file as its inode record has them.
use Rattle.std.specs.Prelude.{◌≡◌, ℕ, ◌*◌, ◌<◌, Option, List, take, slice_index, slice_set}
use Rattle.std.specs.Int.{w32, to_le_bytes}
use Rattle.ccfs_base.specs.Places.{part}
use Rattle.block_maps.specs.declared.plans.Gain.{Gain}
use Rattle.block_maps.specs.Maps.{Mapped, file_at, with_block, placed_file}
use Rattle.block_maps.specs.Plans.{blocks_of}
use Rattle.block_maps.specs.Uses.{block_count, place_of}

-- the files, of which one has a block for that use
abbrev pub with_use : List Mapped → ℕ → Option ℕ → ℕ → List Mapped
with_use files inode purpose block = slice_set files inode (with_block (file_at files inode) (place_of purpose) block)

-- the files, of which one has that length
abbrev pub with_length : List Mapped → ℕ → ℕ → List Mapped
with_length files inode len = slice_set files inode (record (file_at files inode) { len = len })

-- the files, of which one has the blocks of so many pages at most
abbrev pub with_pages : List Mapped → ℕ → ℕ → List Mapped
with_pages files inode count =
    slice_set files inode (record (file_at files inode) { blocks = take (block_count count) (file_at files inode).blocks })

-- one of the files with that length, the blocks that it keeps and those that it gained
abbrev pub next_file : List Mapped → ℕ → ℕ → ℕ → List Gain → Mapped
next_file files inode low len gained = placed_file (file_at files inode) low len (blocks_of gained)

-- the bytes are the pointers of the first 25 places in the order of uses, each of 4 bytes, the lowest first, and 0 where there is
-- no block: of the blocks [513] they are 1, 2 and 98 zeros
abbrev pub ArePointers : List ℕ → List ℕ → Type 0
ArePointers blocks bytes = (place : ℕ) → place < 25 → part (4 * place) 4 bytes ≡ to_le_bytes w32 (slice_index blocks place)
