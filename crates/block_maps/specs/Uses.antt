-- What the blocks of a file are for. A file of so many pages has a block for each page, and where there are more than 24 an
-- indirect block, which tells the blocks of the pages from 24 on.
use Rattle.std.specs.Prelude.{ℕ, ◌+◌, ◌-◌, ◌==◌, min, cond, nat_lt, Option, Some, None, List, [], ◌∷◌, ◌++◌, length, map, drop}
use Rattle.std.specs.List.{range_with_len}
use Rattle.ccfs_base.specs.Limits.{pages}
use Rattle.block_maps.specs.declared.TheConstants.{DIRECT_PAGES}

-- the uses of the blocks of a file of so many pages, in the order in which its pointers are read, a page by its number and the
-- indirect block by None: of 2 pages they are Some 0 and Some 1; of 26 they are Some 0 to Some 23, None, Some 24 and Some 25
abbrev pub uses : ℕ → List (Option ℕ)
uses n =
    map (λ page. Some page) (range_with_len 0 (min n DIRECT_PAGES))
    ++ cond (nat_lt DIRECT_PAGES n) (None ∷ map (λ page. Some page) (range_with_len DIRECT_PAGES (n - DIRECT_PAGES))) []

-- how many blocks a file of so many pages has: of 24 pages 24, and of 25 pages 26
abbrev pub block_count : ℕ → ℕ
block_count n = n + cond (nat_lt DIRECT_PAGES n) 1 0

-- the place of a use in that order: page 23 has place 23, the indirect block 24, and page 24 has 25
abbrev pub place_of : Option ℕ → ℕ
place_of None = DIRECT_PAGES
place_of (Some page) = page + cond (nat_lt page DIRECT_PAGES) 0 1

-- the use at a place
abbrev pub use_at : ℕ → Option ℕ
use_at place = cond (nat_lt place DIRECT_PAGES) (Some place) (cond (place == DIRECT_PAGES) None (Some (place - 1)))

-- the uses that need new blocks where a file had `low` pages when it was shortest and has `end` pages at the end: those of its
-- pages from `low` on, and the indirect block where it had none. From 24 to 25 they are None and Some 24
abbrev pub new_uses : ℕ → ℕ → List (Option ℕ)
new_uses low end = drop (length (uses low)) (uses end)

-- the uses whose blocks a file gives up that had `before` pages at the start and `low` when it was shortest
abbrev pub given_uses : ℕ → ℕ → List (Option ℕ)
given_uses low before = drop (length (uses low)) (uses before)

-- how many new blocks a file of that length needs which had `low` pages when it was shortest
abbrev pub new_count : ℕ → ℕ → ℕ
new_count low len = block_count (pages len) - block_count low
