-- The attribute part of an inode record: its first 24 bytes. They are the kind, seven bytes without a meaning, and two
-- numbers of 8 bytes, the lowest first: the length and the changes.
use Rattle.std.specs.Prelude.{◌≡◌, ℕ, cond, ◌==◌, Option, Some, None, option_map, List, ◌∷◌, ◌++◌, take, drop, replicate, slice_index}
use Rattle.byteorder.specs.Endian.{little_bytes, little_number}
use Rattle.inode_table.specs.declared.attrs.Kind.{Kind}
use Rattle.inode_table.specs.declared.attrs.Kind.TheVariants.{Dir, File}
use Rattle.inode_table.specs.declared.attrs.Attr.{Attr}

-- ---- writing

-- the byte of a kind: 1 of a directory and 2 of a file
abbrev pub kind_byte : Kind → ℕ
kind_byte Dir = 1
kind_byte File = 2

-- the 24 bytes of attributes. Both numbers are written whatever the kind is. Of a file of 5 bytes they are 2, seven zeros,
-- then 5 and seven zeros, then eight zeros
abbrev pub attr_bytes : Attr → List ℕ
attr_bytes attr = kind_byte attr.kind ∷ (replicate 7 0 ++ (little_bytes 8 attr.length ++ little_bytes 8 attr.changes))

-- ---- reading

-- the number of 8 bytes at a place: in nine bytes 7 0 2 0 0 0 0 0 0 it is 512 at the place 1. Bytes that are missing count
-- as 0
abbrev pub number_at : ℕ → List ℕ → ℕ
number_at place bytes = little_number 8 (drop place bytes)

-- the kind of a byte, and nothing of a byte that is neither 1 nor 2
abbrev pub kind_of : ℕ → Option Kind
kind_of byte = cond (byte == 1) (Some Dir) (cond (byte == 2) (Some File) None)

-- the attributes of a kind with the two numbers that stand in the bytes
abbrev pub with_numbers : List ℕ → Kind → Attr
with_numbers bytes kind = record { kind = kind; length = number_at 8 bytes; changes = number_at 16 bytes }

-- the attributes that 24 bytes tell, and nothing where the first stands for no kind. Bytes 1 to 7 don't count: 24 bytes
-- of the value 1 tell a directory, 24 bytes of the value 3 nothing
abbrev pub attr_of : List ℕ → Option Attr
attr_of bytes = option_map (with_numbers bytes) (kind_of (slice_index bytes 0))

-- bytes 1 to 7 are zero, as in what is written
abbrev pub IsBare : List ℕ → Type 0
IsBare bytes = take 7 (drop 1 bytes) ≡ replicate 7 0
