-- The laws of uses and of maps.
use Rattle.std.specs.Prelude.{◌≡◌, ℕ, ◌≤◌, List, length, take}
use Rattle.ccfs_base.specs.Limits.{file_max, pages}
use Rattle.block_maps.specs.Maps.{Mapped, IsWhole, placed_file}
use Rattle.block_maps.specs.Uses.{uses, block_count, new_count}

-- a file has as many blocks as uses
abbrev pub UsesAreCounted : Type 0
UsesAreCounted = (n : ℕ) → length (uses n) ≡ block_count n

-- the uses of a shorter file are the first ones of a longer one
abbrev pub UsesArePrefixes : Type 0
UsesArePrefixes = (m n : ℕ) → m ≤ n → take (length (uses m)) (uses n) ≡ uses m

-- a file that has just the blocks that its length takes still has just those behind a batch that gave it as many as it needs
abbrev pub NextIsWhole : Type 0
NextIsWhole = (file : Mapped) (low len : ℕ) (new : List ℕ) → IsWhole file → low ≤ pages file.len → low ≤ pages len → len ≤ file_max
    → length new ≡ new_count low len → IsWhole (placed_file file low len new)
