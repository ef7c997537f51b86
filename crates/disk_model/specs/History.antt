-- A disk in memory by its operations, the newest first: what it holds, and what a crash may leave.
use Rattle.std.specs.Prelude.{◌≡◌, ◌⊎◌, ℕ, ◌+◌, ◌≤◌, Bool, true, ◌&&◌, nat_le, List, [], ◌∷◌, length}
use Rattle.disk_model.specs.Bytes.{patched, resized, Torn, Resized}
use Rattle.disk_model.specs.declared.operation.Operation.{Operation}
use Rattle.disk_model.specs.declared.operation.Operation.TheVariants.{Write, Resize, Sync}

-- what a read gives after the operations: 0 0 0 and then a write of 7 at offset 1 is 0 7 0
abbrev pub contents : List ℕ → List Operation → List ℕ
contents start [] = start
contents start (Write offset bytes ∷ past) = patched (contents start past) offset bytes.items
contents start (Resize size ∷ past) = resized (contents start past) size
contents start (Sync ∷ past) = contents start past

-- each write lay inside the size of its time: a write of 2 bytes at offset 2 lies inside 4 bytes, and not inside 3
abbrev pub all_inside : List ℕ → List Operation → Bool
all_inside start [] = true
all_inside start (Write offset bytes ∷ past) = nat_le (offset + length bytes.items) (length (contents start past)) && all_inside start past
all_inside start (Resize size ∷ past) = all_inside start past
all_inside start (Sync ∷ past) = all_inside start past

-- The images of a crash now: since the last sync any bytes in the ranges that were written, and either size.
-- After a write of 7 at offset 1 of 0 0 0 these are 0 x 0 for each byte x, and after a sync 0 7 0 alone.
abbrev pub Images : List ℕ → List Operation → List ℕ → Type 0
Images start [] c = c ≡ start
Images start (Write offset bytes ∷ past) c = (d : List ℕ) × Images start past d × Torn offset (length bytes.items) d c
Images start (Resize size ∷ past) c = (d : List ℕ) × Images start past d × Resized size d c
Images start (Sync ∷ past) c = c ≡ contents start past

-- an image of now, or of some moment from the t-th operation on: the clock counts the operations
abbrev pub LeftSince : List ℕ → List Operation → ℕ → List ℕ → Type 0
LeftSince start [] t c = Images start [] c
LeftSince start (operation ∷ past) t c = Images start (operation ∷ past) c ⊎ ((t ≤ length past) × LeftSince start past t c)
