-- A slot as bytes: 4 of the parent, the lowest first, 1 of the length of the name, and 64 of the name.
use Rattle.std.specs.Prelude.{ℕ, ◌-◌, Bool, cond, ◌&&◌, nat_le, Option, Some, None, List, ◌∷◌, ◌++◌, length, take, drop, get_or, replicate}
use Rattle.byteorder.specs.Endian.{little_bytes, little_number}
use Rattle.ccfs_base.specs.Names.{is_name}
use Rattle.flat_dirs.specs.declared.slot.Slot.{Slot}

-- ---- writing

-- the bytes of a slot, with zeros behind the name: of `ab` in directory 258 they are 2 1 0 0, 2, 97 98 and 62 zeros
abbrev pub slot_bytes : Slot → List ℕ
slot_bytes slot = little_bytes 4 slot.parent ++ (length slot.name ∷ slot.name) ++ replicate (64 - length slot.name) 0

-- ---- reading

-- the parent that bytes name: 258 where they begin with 2 1 0 0
abbrev pub parent_in : List ℕ → ℕ
parent_in bytes = little_number 4 bytes

-- the length of the name that bytes name, which may be that of no name: 2 where the byte at place 4 is 2
abbrev pub length_in : List ℕ → ℕ
length_in bytes = get_or bytes 4 0

-- the bytes of that length from place 5 on
abbrev pub name_in : List ℕ → List ℕ
name_in bytes = take (length_in bytes) (drop 5 bytes)

-- whether bytes hold a slot: the length is from 1 to 64, and the bytes of that length are a name. 69 zeros hold none
abbrev pub is_slot : List ℕ → Bool
is_slot bytes = nat_le 1 (length_in bytes) && (nat_le (length_in bytes) 64 && is_name (name_in bytes))

-- the slot that bytes hold, where they hold one
abbrev pub slot_in : List ℕ → Option Slot
slot_in bytes = cond (is_slot bytes) (Some (record { parent = parent_in bytes; name = name_in bytes })) None
