-- Fields lie apart.
use Rattle.std.proofs.Common.{◌≡◌, ◌≢◌, ℕ, ◌+◌, ◌*◌, ◌/◌, ◌%◌, ◌<◌, ◌≤◌, refl, sym, ap, subst, arith}
use Rattle.std.proofs.Math.Path.{ap₂}
use Rattle.inode_table.specs.Records.{record_offset}
use Rattle.ccfs_base.specs.Places.{Place, Range, Bit, AreApart}
use Rattle.image_model.specs.Fields.{slot_offset, Field, Number, FreeBlocks, FreeInodes, Format, BlockBit, InodeBit, Kind, Length, Changes, Direct, Indirect, Slot, place, IsField}

-- the records stand one behind the other, and so do the slots behind them
pub record_line : (i : ℕ) → record_offset i ≡ 12288 + 256 * i
record_line i = omega arith

pub slot_line : (n i : ℕ) → n % 32 ≡ 0 → slot_offset n i ≡ 12288 + 256 * n + 128 * i
slot_line n i steps = omega arith

-- the places without divisions
abbrev line : ℕ → Field → Place
line n Number = Range 0 8
line n FreeBlocks = Range 8 8
line n FreeInodes = Range 16 8
line n Format = Range 24 4
line n (BlockBit item) = Bit (4096 + item / 8) (item % 8)
line n (InodeBit inode) = Bit (8192 + inode / 8) (inode % 8)
line n (Kind inode) = Range (12288 + 256 * inode) 1
line n (Length inode) = Range (12288 + 256 * inode + 8) 8
line n (Changes inode) = Range (12288 + 256 * inode + 16) 8
line n (Direct inode page) = Range (12288 + 256 * inode + 64 + 4 * page) 4
line n (Indirect inode) = Range (12288 + 256 * inode + 160) 4
line n (Slot inode) = Range (12288 + 256 * n + 128 * inode) 69

in_line : (n : ℕ) (f : Field) → n % 32 ≡ 0 → place n f ≡ line n f
in_line n Number steps = refl
in_line n FreeBlocks steps = refl
in_line n FreeInodes steps = refl
in_line n Format steps = refl
in_line n (BlockBit item) steps = refl
in_line n (InodeBit inode) steps = refl
in_line n (Kind i) steps = ap (λ z. Range z 1) (record_line i)
in_line n (Length i) steps = ap (λ z. Range (z + 8) 8) (record_line i)
in_line n (Changes i) steps = ap (λ z. Range (z + 16) 8) (record_line i)
in_line n (Direct i page) steps = ap (λ z. Range (z + 64 + 4 * page) 4) (record_line i)
in_line n (Indirect i) steps = ap (λ z. Range (z + 160) 4) (record_line i)
in_line n (Slot i) steps = ap (λ z. Range z 69) (slot_line n i steps)

-- two direct pointers that have a byte in common are one
same_direct : (i k j l x : ℕ) → k < 24 → l < 24 → 12288 + 256 * i + 64 + 4 * k ≤ x → x < 12288 + 256 * i + 64 + 4 * k + 4
    → 12288 + 256 * j + 64 + 4 * l ≤ x → x < 12288 + 256 * j + 64 + 4 * l + 4 → Direct i k ≡ Direct j l
same_direct i k j l x a b p q r s =
    let record_same : i ≡ j = omega arith in
    let page_same : k ≡ l = omega arith in
    ap₂ Direct record_same page_same

apart : (n : ℕ) (f h : Field) → n ≤ 8192 → IsField n f → IsField n h → f ≢ h → AreApart (line n f) (line n h)
apart n Number Number small u w e = absurd (e refl)
apart n Number FreeBlocks small u w e = λ x p q r s. omega arith
apart n Number FreeInodes small u w e = λ x p q r s. omega arith
apart n Number Format small u w e = λ x p q r s. omega arith
apart n Number (BlockBit c) small u w e = λ p q. omega arith
apart n Number (InodeBit j) small u w e = λ p q. omega arith
apart n Number (Kind j) small u w e = λ x p q r s. omega arith
apart n Number (Length j) small u w e = λ x p q r s. omega arith
apart n Number (Changes j) small u w e = λ x p q r s. omega arith
apart n Number (Direct j l) small u w e = λ x p q r s. omega arith
apart n Number (Indirect j) small u w e = λ x p q r s. omega arith
apart n Number (Slot j) small u w e = λ x p q r s. omega arith
apart n FreeBlocks Number small u w e = λ x p q r s. omega arith
apart n FreeBlocks FreeBlocks small u w e = absurd (e refl)
apart n FreeBlocks FreeInodes small u w e = λ x p q r s. omega arith
apart n FreeBlocks Format small u w e = λ x p q r s. omega arith
apart n FreeBlocks (BlockBit c) small u w e = λ p q. omega arith
apart n FreeBlocks (InodeBit j) small u w e = λ p q. omega arith
apart n FreeBlocks (Kind j) small u w e = λ x p q r s. omega arith
apart n FreeBlocks (Length j) small u w e = λ x p q r s. omega arith
apart n FreeBlocks (Changes j) small u w e = λ x p q r s. omega arith
apart n FreeBlocks (Direct j l) small u w e = λ x p q r s. omega arith
apart n FreeBlocks (Indirect j) small u w e = λ x p q r s. omega arith
apart n FreeBlocks (Slot j) small u w e = λ x p q r s. omega arith
apart n FreeInodes Number small u w e = λ x p q r s. omega arith
apart n FreeInodes FreeBlocks small u w e = λ x p q r s. omega arith
apart n FreeInodes FreeInodes small u w e = absurd (e refl)
apart n FreeInodes Format small u w e = λ x p q r s. omega arith
apart n FreeInodes (BlockBit c) small u w e = λ p q. omega arith
apart n FreeInodes (InodeBit j) small u w e = λ p q. omega arith
apart n FreeInodes (Kind j) small u w e = λ x p q r s. omega arith
apart n FreeInodes (Length j) small u w e = λ x p q r s. omega arith
apart n FreeInodes (Changes j) small u w e = λ x p q r s. omega arith
apart n FreeInodes (Direct j l) small u w e = λ x p q r s. omega arith
apart n FreeInodes (Indirect j) small u w e = λ x p q r s. omega arith
apart n FreeInodes (Slot j) small u w e = λ x p q r s. omega arith
apart n Format Number small u w e = λ x p q r s. omega arith
apart n Format FreeBlocks small u w e = λ x p q r s. omega arith
apart n Format FreeInodes small u w e = λ x p q r s. omega arith
apart n Format Format small u w e = absurd (e refl)
apart n Format (BlockBit c) small u w e = λ p q. omega arith
apart n Format (InodeBit j) small u w e = λ p q. omega arith
apart n Format (Kind j) small u w e = λ x p q r s. omega arith
apart n Format (Length j) small u w e = λ x p q r s. omega arith
apart n Format (Changes j) small u w e = λ x p q r s. omega arith
apart n Format (Direct j l) small u w e = λ x p q r s. omega arith
apart n Format (Indirect j) small u w e = λ x p q r s. omega arith
apart n Format (Slot j) small u w e = λ x p q r s. omega arith
apart n (BlockBit b) Number small u w e = λ p q. omega arith
apart n (BlockBit b) FreeBlocks small u w e = λ p q. omega arith
apart n (BlockBit b) FreeInodes small u w e = λ p q. omega arith
apart n (BlockBit b) Format small u w e = λ p q. omega arith
apart n (BlockBit b) (BlockBit c) small u w e = λ p q. e (ap BlockBit (omega arith))
apart n (BlockBit b) (InodeBit j) small u w e = λ p q. omega arith
apart n (BlockBit b) (Kind j) small u w e = λ p q. omega arith
apart n (BlockBit b) (Length j) small u w e = λ p q. omega arith
apart n (BlockBit b) (Changes j) small u w e = λ p q. omega arith
apart n (BlockBit b) (Direct j l) small u w e = λ p q. omega arith
apart n (BlockBit b) (Indirect j) small u w e = λ p q. omega arith
apart n (BlockBit b) (Slot j) small u w e = λ p q. omega arith
apart n (InodeBit i) Number small u w e = λ p q. omega arith
apart n (InodeBit i) FreeBlocks small u w e = λ p q. omega arith
apart n (InodeBit i) FreeInodes small u w e = λ p q. omega arith
apart n (InodeBit i) Format small u w e = λ p q. omega arith
apart n (InodeBit i) (BlockBit c) small u w e = λ p q. omega arith
apart n (InodeBit i) (InodeBit j) small u w e = λ p q. e (ap InodeBit (omega arith))
apart n (InodeBit i) (Kind j) small u w e = λ p q. omega arith
apart n (InodeBit i) (Length j) small u w e = λ p q. omega arith
apart n (InodeBit i) (Changes j) small u w e = λ p q. omega arith
apart n (InodeBit i) (Direct j l) small u w e = λ p q. omega arith
apart n (InodeBit i) (Indirect j) small u w e = λ p q. omega arith
apart n (InodeBit i) (Slot j) small u w e = λ p q. omega arith
apart n (Kind i) Number small u w e = λ x p q r s. omega arith
apart n (Kind i) FreeBlocks small u w e = λ x p q r s. omega arith
apart n (Kind i) FreeInodes small u w e = λ x p q r s. omega arith
apart n (Kind i) Format small u w e = λ x p q r s. omega arith
apart n (Kind i) (BlockBit c) small u w e = λ p q. omega arith
apart n (Kind i) (InodeBit j) small u w e = λ p q. omega arith
apart n (Kind i) (Kind j) small u w e = λ x p q r s. e (ap Kind (omega arith))
apart n (Kind i) (Length j) small u w e = λ x p q r s. omega arith
apart n (Kind i) (Changes j) small u w e = λ x p q r s. omega arith
apart n (Kind i) (Direct j l) small u w e = λ x p q r s. omega arith
apart n (Kind i) (Indirect j) small u w e = λ x p q r s. omega arith
apart n (Kind i) (Slot j) small u w e = λ x p q r s. omega arith
apart n (Length i) Number small u w e = λ x p q r s. omega arith
apart n (Length i) FreeBlocks small u w e = λ x p q r s. omega arith
apart n (Length i) FreeInodes small u w e = λ x p q r s. omega arith
apart n (Length i) Format small u w e = λ x p q r s. omega arith
apart n (Length i) (BlockBit c) small u w e = λ p q. omega arith
apart n (Length i) (InodeBit j) small u w e = λ p q. omega arith
apart n (Length i) (Kind j) small u w e = λ x p q r s. omega arith
apart n (Length i) (Length j) small u w e = λ x p q r s. e (ap Length (omega arith))
apart n (Length i) (Changes j) small u w e = λ x p q r s. omega arith
apart n (Length i) (Direct j l) small u w e = λ x p q r s. omega arith
apart n (Length i) (Indirect j) small u w e = λ x p q r s. omega arith
apart n (Length i) (Slot j) small u w e = λ x p q r s. omega arith
apart n (Changes i) Number small u w e = λ x p q r s. omega arith
apart n (Changes i) FreeBlocks small u w e = λ x p q r s. omega arith
apart n (Changes i) FreeInodes small u w e = λ x p q r s. omega arith
apart n (Changes i) Format small u w e = λ x p q r s. omega arith
apart n (Changes i) (BlockBit c) small u w e = λ p q. omega arith
apart n (Changes i) (InodeBit j) small u w e = λ p q. omega arith
apart n (Changes i) (Kind j) small u w e = λ x p q r s. omega arith
apart n (Changes i) (Length j) small u w e = λ x p q r s. omega arith
apart n (Changes i) (Changes j) small u w e = λ x p q r s. e (ap Changes (omega arith))
apart n (Changes i) (Direct j l) small u w e = λ x p q r s. omega arith
apart n (Changes i) (Indirect j) small u w e = λ x p q r s. omega arith
apart n (Changes i) (Slot j) small u w e = λ x p q r s. omega arith
apart n (Direct i k) Number small u w e = λ x p q r s. omega arith
apart n (Direct i k) FreeBlocks small u w e = λ x p q r s. omega arith
apart n (Direct i k) FreeInodes small u w e = λ x p q r s. omega arith
apart n (Direct i k) Format small u w e = λ x p q r s. omega arith
apart n (Direct i k) (BlockBit c) small u w e = λ p q. omega arith
apart n (Direct i k) (InodeBit j) small u w e = λ p q. omega arith
apart n (Direct i k) (Kind j) small u w e = λ x p q r s. omega arith
apart n (Direct i k) (Length j) small u w e = λ x p q r s. omega arith
apart n (Direct i k) (Changes j) small u w e = λ x p q r s. omega arith
apart n (Direct i k) (Direct j l) small u w e = λ x p q r s. e (same_direct i k j l x u.1 w.1 p q r s)
apart n (Direct i k) (Indirect j) small u w e = λ x p q r s. omega arith
apart n (Direct i k) (Slot j) small u w e = λ x p q r s. omega arith
apart n (Indirect i) Number small u w e = λ x p q r s. omega arith
apart n (Indirect i) FreeBlocks small u w e = λ x p q r s. omega arith
apart n (Indirect i) FreeInodes small u w e = λ x p q r s. omega arith
apart n (Indirect i) Format small u w e = λ x p q r s. omega arith
apart n (Indirect i) (BlockBit c) small u w e = λ p q. omega arith
apart n (Indirect i) (InodeBit j) small u w e = λ p q. omega arith
apart n (Indirect i) (Kind j) small u w e = λ x p q r s. omega arith
apart n (Indirect i) (Length j) small u w e = λ x p q r s. omega arith
apart n (Indirect i) (Changes j) small u w e = λ x p q r s. omega arith
apart n (Indirect i) (Direct j l) small u w e = λ x p q r s. omega arith
apart n (Indirect i) (Indirect j) small u w e = λ x p q r s. e (ap Indirect (omega arith))
apart n (Indirect i) (Slot j) small u w e = λ x p q r s. omega arith
apart n (Slot i) Number small u w e = λ x p q r s. omega arith
apart n (Slot i) FreeBlocks small u w e = λ x p q r s. omega arith
apart n (Slot i) FreeInodes small u w e = λ x p q r s. omega arith
apart n (Slot i) Format small u w e = λ x p q r s. omega arith
apart n (Slot i) (BlockBit c) small u w e = λ p q. omega arith
apart n (Slot i) (InodeBit j) small u w e = λ p q. omega arith
apart n (Slot i) (Kind j) small u w e = λ x p q r s. omega arith
apart n (Slot i) (Length j) small u w e = λ x p q r s. omega arith
apart n (Slot i) (Changes j) small u w e = λ x p q r s. omega arith
apart n (Slot i) (Direct j l) small u w e = λ x p q r s. omega arith
apart n (Slot i) (Indirect j) small u w e = λ x p q r s. omega arith
apart n (Slot i) (Slot j) small u w e = λ x p q r s. e (ap Slot (omega arith))

pub fields_are_apart : (n : ℕ) (f h : Field) → n % 32 ≡ 0 → n ≤ 8192 → IsField n f → IsField n h → f ≢ h → AreApart (place n f) (place n h)
fields_are_apart n f h steps small u w e =
    let P : Place → Type 0 = λ p. AreApart p (place n h) in
    let Q : Place → Type 0 = λ p. AreApart (line n f) p in
    subst P (sym (in_line n f steps)) (subst Q (sym (in_line n h steps)) (apart n f h small u w e))
