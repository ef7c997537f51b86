-- Bytes of a file that are cut off, filled up or written over.
use Rattle.std.specs.Prelude.{ℕ, ◌+◌, ◌-◌, List, ◌++◌, length, take, drop, replicate}

-- cut to this length, or filled up with zeros: [7, 8] to 1 is [7], and to 4 is [7, 8, 0, 0]
abbrev pub resized : ℕ → List ℕ → List ℕ
resized len bytes = take len bytes ++ replicate (len - length bytes) 0

-- with the new bytes at this place, over what stands there, and zeros in a gap before them: [7, 8, 9] with [1] at 1 is
-- [7, 1, 9], and with [1] at 4 is [7, 8, 9, 0, 1]
abbrev pub written : ℕ → List ℕ → List ℕ → List ℕ
written off new bytes = resized off bytes ++ new ++ drop (off + length new) bytes
