-- Ranges of a disk's bytes, and what a write or a new size does to them.
use Rattle.std.specs.Prelude.{◌≡◌, ℕ, ◌+◌, ◌-◌, ◌≤◌, List, ◌++◌, length, take, drop, replicate, ◌⊎◌}

-- the bytes of a range: `part 1 2` of 5 6 7 8 is 6 7
abbrev pub part : ℕ → ℕ → List ℕ → List ℕ
part offset size bytes = take size (drop offset bytes)

-- the old bytes with new ones in their place: 5 6 7 8 with 1 2 at offset 1 is 5 1 2 8
abbrev pub patched : List ℕ → ℕ → List ℕ → List ℕ
patched old offset bytes = take offset old ++ bytes ++ drop (offset + length bytes) old

-- the old bytes at a new size: cut, or with zeros behind them. 5 6 7 at size 2 is 5 6, and at size 5 it is 5 6 7 0 0
abbrev pub resized : List ℕ → ℕ → List ℕ
resized old size = take size old ++ replicate (size - length old) 0

-- A torn write: any bytes in its range, the same bytes elsewhere. At offset 1 with size 2, 5 6 7 8 may become 5 0 9 8.
pub record Torn (offset size : ℕ) (old new : List ℕ) : Type 0 where
  pub before : take offset new ≡ take offset old
  pub after : drop (offset + size) new ≡ drop (offset + size) old
  pub same_length : length new ≡ length old

-- An unfinished change of size: the old size or the new one, and the same bytes below both. At size 2, 5 6 7 stays or
-- becomes 5 6. At size 4 it may become 5 6 7 9.
pub record Resized (size : ℕ) (old new : List ℕ) : Type 0 where
  pub either : (length new ≡ length old) ⊎ (length new ≡ size)
  pub front : (k : ℕ) → k ≤ length old → k ≤ size → take k new ≡ take k old
