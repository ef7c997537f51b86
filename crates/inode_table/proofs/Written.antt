-- Attributes are read as they were written, and written as they were read.
use Rattle.std.proofs.Common.{◌≡◌, ℕ, ◌+◌, ◌^◌, ◌<◌, ◌≤◌, List, [], ◌∷◌, ◌++◌, refl, sym, ap, ◌∙◌, subst, length, take, drop, replicate, slice_index, Bool, true, false, cond, eqb, Some, None, option_map, arith}
use Rattle.std.proofs.lemmas.Bool.{eqb-true}
use Rattle.std.proofs.lemmas.List.{append-nil, drop_all, drop-drop, length-drop, get_or-drop, take-append-drop, drop_more}
use Rattle.byteorder.specs.Endian.{little_bytes}
use Rattle.byteorder.specs.Numbers.{little_number-reads_back}
use Rattle.inode_table.specs.declared.attrs.Kind.{Kind}
use Rattle.inode_table.specs.declared.attrs.Kind.TheVariants.{Dir, File}
use Rattle.inode_table.specs.declared.attrs.Attr.{Attr}
use Rattle.inode_table.specs.Attrs.{kind_byte, kind_of, attr_bytes, attr_of, number_at, with_numbers, IsBare}
use Rattle.inode_table.proofs.Numbers.{AreBytes, number_spelled}

kind_read : (kind : Kind) → kind_of (kind_byte kind) ≡ Some kind
kind_read Dir = refl
kind_read File = refl

-- both numbers stand where they are read, whatever the kind is
pub attr_read : (kind : Kind) (length changes : ℕ) → length < 2 ^ 64 → changes < 2 ^ 64
    → attr_of (attr_bytes (record { kind = kind; length = length; changes = changes })) ≡ Some (record { kind = kind; length = length; changes = changes })
attr_read kind length changes p q =
    let bytes : List ℕ = attr_bytes (record { kind = kind; length = length; changes = changes }) in
    let long : number_at 8 bytes ≡ length = little_number-reads_back 8 length (little_bytes 8 changes) p in
    let changed : number_at 16 bytes ≡ changes = little_number-reads_back 8 changes [] q in
    ap (option_map (with_numbers bytes)) (kind_read kind)
    ∙ ap (λ z. Some (record { kind = kind; length = z; changes = number_at 16 bytes })) long
    ∙ ap (λ z. Some (record { kind = kind; length = length; changes = z })) changed

-- the attributes are of the kind that the first byte stands for, and their numbers are those in the bytes
record AreTold (bytes : List ℕ) (attr : Attr) : Type 0 where
  kind : slice_index bytes 0 ≡ kind_byte attr.kind
  numbers : attr ≡ with_numbers bytes attr.kind

of_kind : (bytes : List ℕ) (kind : Kind) (attr : Attr) → slice_index bytes 0 ≡ kind_byte kind → Some (with_numbers bytes kind) ≡ Some attr → AreTold bytes attr
of_kind bytes kind attr byte read =
    let same : with_numbers bytes kind ≡ attr = cc in
    let P : Attr → Type 0 = λ a. AreTold bytes a in
    subst P same (record { kind = byte; numbers = refl })

by_tests : (bytes : List ℕ) (attr : Attr) (first second : Bool) → eqb (slice_index bytes 0) 1 ≡ first → eqb (slice_index bytes 0) 2 ≡ second
    → option_map (with_numbers bytes) (cond first (Some Dir) (cond second (Some File) None)) ≡ Some attr → AreTold bytes attr
by_tests bytes attr true second one two read = of_kind bytes Dir attr (eqb-true _ _ one) read
by_tests bytes attr false true one two read = of_kind bytes File attr (eqb-true _ _ two) read
by_tests bytes attr false false one two read = absurd (cc)

-- from a place on stand the 8 bytes of the number that is read there, and what stands behind them
number_stands : (place : ℕ) (bytes : List ℕ) → place + 8 ≤ length bytes → AreBytes bytes → drop place bytes ≡ little_bytes 8 (number_at place bytes) ++ drop (place + 8) bytes
number_stands place bytes long fits =
    let behind = length-drop place bytes in
    let front : take 8 (drop place bytes) ≡ little_bytes 8 (number_at place bytes) = number_spelled 8 (drop place bytes) (omega arith) (record { below = λ i. rw get_or-drop (fits.below (place + i)) }) in
    sym (take-append-drop 8 (drop place bytes)) ∙ ap (λ z. z ++ drop 8 (drop place bytes)) front
    ∙ ap (λ z. little_bytes 8 (number_at place bytes) ++ z) (drop-drop 8 place bytes)

-- the parts stand one behind the other, and behind the last there is nothing
pub attr_written : (bytes : List ℕ) (attr : Attr) → length bytes ≡ 24 → AreBytes bytes → IsBare bytes → attr_of bytes ≡ Some attr → bytes ≡ attr_bytes attr
attr_written bytes attr long fits bare read =
    let told = by_tests bytes attr (eqb (slice_index bytes 0) 1) (eqb (slice_index bytes 0) 2) refl refl read in
    let length_at : ℕ = number_at 8 bytes in
    let changes_at : ℕ = number_at 16 bytes in
    let last : drop 16 bytes ≡ little_bytes 8 changes_at = number_stands 16 bytes (omega arith) fits ∙ ap (λ z. little_bytes 8 changes_at ++ z) (drop_all 24 bytes (omega arith)) ∙ append-nil (little_bytes 8 changes_at) in
    let numbers : drop 8 bytes ≡ little_bytes 8 length_at ++ little_bytes 8 changes_at = number_stands 8 bytes (omega arith) fits ∙ ap (λ z. little_bytes 8 length_at ++ z) last in
    let behind : drop 1 bytes ≡ replicate 7 0 ++ (little_bytes 8 length_at ++ little_bytes 8 changes_at) =
    sym (take-append-drop 7 (drop 1 bytes)) ∙ ap (λ z. z ++ drop 7 (drop 1 bytes)) bare
    ∙ ap (λ z. replicate 7 0 ++ z) (drop-drop 7 1 bytes ∙ numbers) in
    drop_more bytes 0 0 (omega arith)
    ∙ ap (λ z. z ∷ drop 1 bytes) told.kind
    ∙ ap (λ z. kind_byte attr.kind ∷ z) behind
    ∙ ap (λ (a : Attr). kind_byte a.kind ∷ (replicate 7 0 ++ (little_bytes 8 length_at ++ little_bytes 8 changes_at))) told.numbers
    ∙ ap attr_bytes (sym told.numbers)
