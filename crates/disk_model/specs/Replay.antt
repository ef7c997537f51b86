-- How the stable bytes and the loose places are found from the operations, the newest first.
use Rattle.std.specs.Prelude.{ℕ, Bool, true, false, ◌||◌, if◌then◌else◌, ◌+◌, ◌≤◌, nat_lt, List, [], ◌∷◌, length}
use Rattle.disk_model.specs.Bytes.{patched, resized}
use Rattle.disk_model.specs.Pick.{covers_place}
use Rattle.disk_model.specs.declared.operation.Operation.{Operation}
use Rattle.disk_model.specs.declared.operation.Operation.TheVariants.{Write, Resize, Sync}

-- how many operations there are up to the last sync, with it: for a write, a sync and a write there are 2
abbrev pub synced_of : List Operation → ℕ
synced_of [] = 0
synced_of (Write offset bytes ∷ past) = synced_of past
synced_of (Resize size ∷ past) = synced_of past
synced_of (Sync ∷ past) = length past + 1

-- The bytes after an operation, where a write counts only if it was synced. A write of 9 at offset 0 makes 5 6 7 to 9 6 7,
-- and an unsynced one leaves 5 6 7.
abbrev pub stepped : Bool → Operation → List ℕ → List ℕ
stepped true (Write offset bytes) old = patched old offset bytes.items
stepped false (Write offset bytes) old = old
stepped synced (Resize size) old = resized old size
stepped synced Sync old = old

-- The bytes after all of the operations, where only writes among the first `synced` operations count. Of 0 0, then 8 at
-- offset 0 and 9 at offset 1, with 1 synced, it is 8 0.
abbrev pub replayed : ℕ → List ℕ → List Operation → List ℕ
replayed synced start [] = start
replayed synced start (operation ∷ past) = stepped (nat_lt (length past) synced) operation (replayed synced start past)

-- An operation behind the first `synced` ones writes the place. Of 8 at offset 0 and then 9 at offset 1, with 1 synced,
-- place 1 is marked and place 0 is not.
abbrev pub marked : ℕ → List Operation → ℕ → Bool
marked synced [] place = false
marked synced (operation ∷ past) place = (if nat_lt (length past) synced then false else covers_place operation place) || marked synced past place

-- the operation, if it is a write, lies inside so many bytes: 2 bytes at offset 2 lie inside 4 bytes, and not inside 3
abbrev pub IsWithin : Operation → ℕ → Type 0
IsWithin (Write offset bytes) size = offset + length bytes.items ≤ size
IsWithin (Resize new_size) size = Unit {0}
IsWithin Sync size = Unit {0}
