-- A slot is read as it was written.
use Rattle.std.proofs.Common.{◌≡◌, ℕ, ◌+◌, ◌-◌, ◌<◌, Bool, true, false, Some, List, [], ◌∷◌, ◌++◌, length, take, drop, refl, sym, ap, ◌∙◌, arith}
use Rattle.std.specs.Prelude.{replicate, cond, ◌&&◌, nat_le}
use Rattle.std.proofs.lemmas.List.{take_at, drop-drop, drop-replicate}
use Rattle.byteorder.specs.Endian.{little_bytes, little_number}
use Rattle.ccfs_base.specs.Names.{is_name}
use Rattle.flat_dirs.specs.declared.slot.Slot.{Slot}
use Rattle.flat_dirs.specs.Slot.{slot_bytes, slot_in, parent_in, name_in, is_slot}

-- a number of 4 bytes is read from its bytes
number_back : (n : ℕ) (rest : List ℕ) → n < 4294967296 → little_number 4 (little_bytes 4 n ++ rest) ≡ n
number_back n rest fits = omega arith

-- a name has 1 to 64 bytes, and so has the length that is written
both_bounds : (a b c d : Bool) → (a && (b && c)) ≡ true → d ≡ true → (a && (b && d)) ≡ true
both_bounds true true c d h e = e
both_bounds true false c d h e = h
both_bounds false b c d h e = h

pub read_back : (slot : Slot) → slot.parent < 4294967296 → is_name slot.name ≡ true → slot_in (slot_bytes slot) ≡ Some slot
read_back slot fits named =
    let n : List ℕ = slot.name in
    let bytes : List ℕ = slot_bytes slot in
    let name : name_in bytes ≡ n = take_at n (replicate (64 - length n) 0) (length n) refl in
    let parent : parent_in bytes ≡ slot.parent = number_back slot.parent (drop 4 bytes) fits in
    let good : is_slot bytes ≡ true = both_bounds (nat_le 1 (length n)) (nat_le (length n) 64) _ (is_name (name_in bytes)) named (ap is_name name ∙ named) in
    ap (λ b. cond b (Some (record { parent = parent_in bytes; name = name_in bytes })) (slot_in [])) good
    ∙ (λ i. Some (record { parent = parent i; name = name i }))

-- behind a written name stand the zeros that stood there before
zeros_behind : (parent k : ℕ) → drop (5 + k) (little_bytes 4 parent ++ drop 4 (replicate 69 0)) ≡ replicate (64 - k) 0
zeros_behind parent k =
    let place : 5 + k ≡ 4 + (1 + k) = omega arith in
    let all : 69 - (4 + (1 + k)) ≡ 64 - k = omega arith in
    ap (λ z. drop z (little_bytes 4 parent ++ drop 4 (replicate 69 0))) place
    ∙ sym (drop-drop (1 + k) 4 (little_bytes 4 parent ++ drop 4 (replicate 69 0)))
    ∙ drop-drop (1 + k) 4 (replicate 69 0)
    ∙ drop-replicate (4 + (1 + k)) 69 0
    ∙ ap (λ z. replicate z 0) all

-- the parent, the length and the name put into zeros are the bytes of the slot
pub slot_written : (slot : Slot) (bytes : List ℕ) → bytes ≡ little_bytes 4 slot.parent ++ drop 4 (replicate 69 0)
    → take 4 bytes ++ (length slot.name ∷ slot.name ++ drop (5 + length slot.name) bytes) ≡ slot_bytes slot
slot_written slot bytes e =
    ap (λ b. take 4 b ++ (length slot.name ∷ slot.name ++ drop (5 + length slot.name) b)) e
    ∙ ap (λ z. little_bytes 4 slot.parent ++ (length slot.name ∷ slot.name ++ z)) (zeros_behind slot.parent (length slot.name))
