-- Places in a list of bytes: a range, or one bit. What stands at a place is a list: the bytes of the range, or 0 or 1.
use Rattle.std.specs.Prelude.{◌≡◌, ℕ, ◌+◌, ◌-◌, ◌^◌, ◌<◌, ◌≤◌, Bool, cond, ◌==◌, ◌⊎◌, List, [], ◌∷◌, length, take, drop, set, slice_index, bit_or, bit_and}
use Rattle.std.specs.Int.{bit_at}

-- ---- ranges

-- so many bytes from a place on: of 5 6 7 8 the two from 1 on are 6 7
abbrev pub part : ℕ → ℕ → List ℕ → List ℕ
part from size bytes = take size (drop from bytes)

-- the bytes with new ones put on them from a place on: 5 6 7 8 with 1 2 from 1 on is 5 1 2 8. What would stand past the end
-- is left out: 5 6 with 1 2 from 1 on is 5 1
abbrev pub put : List ℕ → ℕ → List ℕ → List ℕ
put bytes from [] = bytes
put bytes from (b ∷ new) = put (set bytes from b) (from + 1) new

-- ---- bits

-- the byte with one bit set or cleared: 4 with bit 1 set is 6, and with bit 2 cleared it is 0
abbrev pub with_bit : ℕ → ℕ → Bool → ℕ
with_bit byte bit on = cond on (bit_or byte (2 ^ bit)) (bit_and byte (255 - 2 ^ bit))

-- ---- places

pub data Place : Type 0 where
  -- so many bytes from one on
  Range : (from size : ℕ) → Place
  -- of one byte the bit of a place from 0 to 7, counted from the lowest
  Bit : (byte bit : ℕ) → Place

-- what stands at a place: in 5 6 it is 5 6 at the range of 2 bytes from 0 on, and 1 at bit 2 of byte 1
abbrev pub read : Place → List ℕ → List ℕ
read (Range from size) bytes = part from size bytes
read (Bit byte bit) bytes = bit_at (slice_index bytes byte) bit ∷ []

-- the bytes with that at a place: 5 6 with 0 at bit 2 of byte 1 is 5 2
abbrev pub write : Place → List ℕ → List ℕ → List ℕ
write (Range from size) bytes new = put bytes from new
write (Bit byte bit) bytes new = put bytes byte (with_bit (slice_index bytes byte) bit (slice_index new 0 == 1) ∷ [])

-- a list can stand at a place: as many bytes as the range has, or 0 or 1
abbrev pub IsValue : Place → List ℕ → Type 0
IsValue (Range from size) new = length new ≡ size
IsValue (Bit byte bit) new = (new ≡ 0 ∷ []) ⊎ (new ≡ 1 ∷ [])

-- a place lies in so many bytes
abbrev pub IsInside : ℕ → Place → Type 0
IsInside size (Range from long) = from + long ≤ size
IsInside size (Bit byte bit) = (byte < size) × (bit < 8)

-- two places have no bit in common: bit 0 and bit 1 of byte 3 haven't, and the bytes 2 to 4 have all bits of byte 3
abbrev pub AreApart : Place → Place → Type 0
AreApart (Range from size) (Range at long) = (x : ℕ) → from ≤ x → x < from + size → at ≤ x → x < at + long → ⊥
AreApart (Range from size) (Bit byte bit) = from ≤ byte → byte < from + size → ⊥
AreApart (Bit byte bit) (Range from size) = from ≤ byte → byte < from + size → ⊥
AreApart (Bit byte bit) (Bit at other) = byte ≡ at → bit ≡ other → ⊥

-- ---- laws

-- what is written at a place is read there
abbrev pub WrittenIsRead : Type 0
WrittenIsRead = (p : Place) (bytes new : List ℕ) → IsInside (length bytes) p → IsValue p new → read p (write p bytes new) ≡ new

-- a write leaves what stands at a place apart from it
abbrev pub OthersStay : Type 0
OthersStay = (p q : Place) (bytes new : List ℕ) → IsInside (length bytes) p → IsInside (length bytes) q → IsValue p new → AreApart p q
    → read q (write p bytes new) ≡ read q bytes

-- a write keeps the number of bytes
abbrev pub LengthStays : Type 0
LengthStays = (p : Place) (bytes new : List ℕ) → length (write p bytes new) ≡ length bytes
