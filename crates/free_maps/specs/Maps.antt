-- Bitmaps: a set bit means that an item is used, and a clear one that it is free.
use Rattle.std.specs.Prelude.{◌≡◌, ℕ, ◌/◌, ◌%◌, ◌<◌, ◌≤◌, Bool, true, false, List, slice_index}
use Rattle.free_maps.specs.Bits.{has_bit, failing}

-- the bytes of a bitmap, and how many items it has. Bits past the last item mean nothing
pub record Map : Type 0 where
  pub bytes : List ℕ
  pub count : ℕ

-- whether the item at a place is used: it has bit place mod 8, counted from the lowest, of byte place div 8. In the bytes
-- 1 128 the items 0 and 15 are used
abbrev pub is_set : List ℕ → ℕ → Bool
is_set bytes place = has_bit (slice_index bytes (place / 8)) (place % 8)

-- how many of the first items are free: of the first twelve in the bytes 1 128 eleven are
abbrev pub clear_below : List ℕ → ℕ → ℕ
clear_below bytes count = failing (is_set bytes) count

-- all items from a place on are used. From past the last item on that holds always
abbrev pub AllSet : Map → ℕ → Type 0
AllSet map start = (i : ℕ) → start ≤ i → i < map.count → is_set map.bytes i ≡ true

-- the place is that of the lowest free item from a place on: of 16 items in the bytes 255 3 it is 10, from 2 on and from
-- 9 on
pub record IsLowestClear (map : Map) (start place : ℕ) : Type 0 where
  pub behind : start ≤ place
  pub within : place < map.count
  pub is_clear : is_set map.bytes place ≡ false
  pub others : (i : ℕ) → start ≤ i → i < place → is_set map.bytes i ≡ true
