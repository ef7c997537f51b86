-- Which image of a crash a number picks, by the operations, the newest first.
use Rattle.std.specs.Prelude.{◌≡◌, ℕ, ◌+◌, ◌*◌, ◌/◌, ◌%◌, ◌^◌, Bool, false, ◌&&◌, ◌||◌, ◌==◌, if◌then◌else◌, nat_le, nat_lt, List, [], ◌∷◌, length, slice_index, EachIndex}
use Rattle.disk_model.specs.Bytes.{resized}
use Rattle.disk_model.specs.History.{contents}
use Rattle.disk_model.specs.declared.operation.Operation.{Operation}
use Rattle.disk_model.specs.declared.operation.Operation.TheVariants.{Write, Resize, Sync}

-- The contents at the last sync, cut or filled up to the size of now. With 5 6 7 at that sync, a write of 9 at offset 0
-- leaves them 5 6 7, and then a size of 2 makes them 5 6.
abbrev pub stable_of : List ℕ → List Operation → List ℕ
stable_of start [] = start
stable_of start (Write offset bytes ∷ past) = stable_of start past
stable_of start (Resize size ∷ past) = resized (stable_of start past) size
stable_of start (Sync ∷ past) = contents start past

-- the operation writes the place: a write of 2 bytes at offset 3 covers 3 and 4
abbrev pub covers_place : Operation → ℕ → Bool
covers_place (Write offset bytes) place = nat_le offset place && nat_lt place (offset + length bytes.items)
covers_place (Resize size) place = false
covers_place Sync place = false

-- A write since the last sync covers the place, whatever the sizes since. After a write of 2 bytes at offset 3 the loose
-- places are 3 and 4, and after a sync there are none.
abbrev pub is_loose : List Operation → ℕ → Bool
is_loose [] place = false
is_loose (Write offset bytes ∷ past) place = covers_place (Write offset bytes) place || is_loose past place
is_loose (Resize size ∷ past) place = is_loose past place
is_loose (Sync ∷ past) place = false

-- a number of 64 bits for each place, by the pick: for pick 2 at place 0 it is 12728272447693586010
abbrev pub mixed : ℕ → ℕ → ℕ
mixed pick place = (pick * 6364136223846793005 + place * 1442695040888963407) % 2 ^ 64

-- The byte at a loose place, by the number of the place: the stable byte, the byte now, or for half of the numbers their
-- own highest byte. The number 2 ^ 48 gives the byte now, and 5 * 2 ^ 56 + 2 * 2 ^ 48 gives 5.
abbrev pub loose_byte : ℕ → ℕ → ℕ → ℕ
loose_byte number stable now =
    if (number / 2 ^ 48) % 4 == 0 then stable else (if (number / 2 ^ 48) % 4 == 1 then now else number / 2 ^ 56)

-- The byte at a place of the picked image. Pick 0 gives the stable bytes, pick 1 the bytes now, and each other pick the
-- stable bytes but for the loose places.
abbrev pub image_byte : List ℕ → List Operation → ℕ → ℕ → ℕ
image_byte start past pick place =
    if pick == 0 then slice_index (stable_of start past) place
    else (if pick == 1 then slice_index (contents start past) place
    else (if is_loose past place then loose_byte (mixed pick place) (slice_index (stable_of start past) place) (slice_index (contents start past) place)
    else slice_index (stable_of start past) place))

-- These bytes are the image that the pick gives. With 5 6 7 stable and a write of 9 at offset 0 since, pick 0 gives 5 6 7
-- and pick 1 gives 9 6 7.
pub record IsPicked (start : List ℕ) (past : List Operation) (pick : ℕ) (image : List ℕ) : Type 0 where
  pub same_length : length image ≡ length (stable_of start past)
  pub bytes : EachIndex image (λ place. slice_index image place ≡ image_byte start past pick place)
