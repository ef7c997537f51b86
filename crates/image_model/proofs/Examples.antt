-- The examples of the definitions' comments, computed.
use Rattle.std.proofs.Common.{◌≡◌, ℕ, ◌+◌, List, [], ◌∷◌, length, slice_get, refl}
use Rattle.std.specs.Prelude.{Bool, true, false, Option, Some, None}
use Rattle.std.specs.Option.{option_flatten, unwrap_or}
use Rattle.inode_table.specs.declared.attrs.Attr.{Attr}
use Rattle.inode_table.specs.declared.attrs.Kind.TheVariants as kinds
use Rattle.flat_dirs.specs.declared.slot.Slot.{Slot}
use Rattle.tree_model.specs.declared.rows.Body.TheVariants.{Dir, File}
use Rattle.image_model.specs.Fields.{block_place, slot_block, slot_offset, direct_place}
use Rattle.image_model.specs.Volumes.{Volume, Table, number, free_blocks, format, first_data, data_blocks}
use Rattle.image_model.specs.declared.pointer.Pointer.TheVariants.{Page, ToIndirect}
use Rattle.image_model.specs.Files.{file_pointers, pointers}
use Rattle.image_model.specs.Lowest.{lowest}
use Rattle.image_model.specs.Checks.{all_built, bare, is_bad_record, is_bad_slot, is_twin, is_in_ring, is_last, is_not_bare}
use Rattle.image_model.specs.Trees.{row_at, gone, serial_of}
use Rattle.image_model.specs.Carrying.{inode_in}

-- ---- fields

second_block : block_place 261 ≡ 4096
second_block = refl

a_slots_block : slot_block 64 33 ≡ 268
a_slots_block = refl

a_slots_place : slot_offset 64 33 ≡ 32896
a_slots_place = refl

a_pointers_place : direct_place 0 2 ≡ 12288 + 72
a_pointers_place = refl

-- the first bytes of a volume of 512 blocks and 32 inodes: the number 263, 5 free blocks, 9 free inodes, the format 1
abbrev counters : Volume
counters = record {
  blocks = 512;
  inodes = 32;
  bytes = 7 ∷ 1 ∷ 0 ∷ 0 ∷ 0 ∷ 0 ∷ 0 ∷ 0 ∷ 5 ∷ 0 ∷ 0 ∷ 0 ∷ 0 ∷ 0 ∷ 0 ∷ 0 ∷ 9 ∷ 0 ∷ 0 ∷ 0 ∷ 0 ∷ 0 ∷ 0 ∷ 0 ∷ 1 ∷ 0 ∷ 0 ∷ 0 ∷ [];
}

its_number : number counters ≡ 263
its_number = refl

its_free_blocks : free_blocks counters ≡ 5
its_free_blocks = refl

its_format : format counters ≡ 1
its_format = refl

its_first_data : first_data counters ≡ 266
its_first_data = refl

its_data_blocks : data_blocks counters ≡ 246
its_data_blocks = refl

-- ---- tables: `/a` is directory 2, `/a/f` the file 3 of 5,000 bytes, and 4 a gone file; 5 isn't used, and 6 is `/b`

abbrev directory : Option Attr
directory = Some (record { kind = kinds.Dir; length = 0; changes = 7 })

abbrev file_of : ℕ → Option Attr
file_of size = Some (record { kind = kinds.File; length = size; changes = 0 })

abbrev pub slot_of : ℕ → List ℕ → Option Slot
slot_of parent name = Some (record { parent = parent; name = name })

abbrev pub table : List Bool → List (Option Attr) → List (Option Slot) → Table
table used attrs slots = record {
  inodes = 7;
  is_used = λ i. unwrap_or (slice_get used i) false;
  attr = λ i. option_flatten (slice_get attrs i);
  slot = λ i. option_flatten (slice_get slots i);
}

abbrev pub used : List Bool
used = true ∷ true ∷ true ∷ true ∷ true ∷ false ∷ true ∷ []

abbrev pub attrs : List (Option Attr)
attrs = directory ∷ directory ∷ directory ∷ file_of 5000 ∷ file_of 0 ∷ None ∷ directory ∷ []

abbrev slots_in : ℕ → ℕ → List (Option Slot)
slots_in a b = None ∷ None ∷ slot_of a (97 ∷ []) ∷ slot_of 2 (102 ∷ []) ∷ slot_of 1 (35 ∷ 52 ∷ []) ∷ None ∷ slot_of b (98 ∷ []) ∷ []

abbrev sample : Table
sample = table used attrs (slots_in 0 0)

no_bad_record : lowest (is_bad_record all_built sample) 7 ≡ None
no_bad_record = refl

no_bad_slot : lowest (is_bad_slot all_built sample) 7 ≡ None
no_bad_slot = refl

no_twin : lowest (is_twin sample) 7 ≡ None
no_twin = refl

no_ring : lowest (is_in_ring sample) 7 ≡ None
no_ring = refl

-- until files have bytes the file of 5,000 bytes is refused, and until they may be gone the one in directory 1
a_long_record_for_now : lowest (is_bad_record bare sample) 7 ≡ Some 3
a_long_record_for_now = refl

a_gone_file_for_now : lowest (is_bad_slot bare sample) 7 ≡ Some 4
a_gone_file_for_now = refl

not_bare : lowest (is_not_bare sample) 7 ≡ Some 3
not_bare = refl

-- a file of 4,292,609 bytes, and an inode of no kind
a_long_file : is_bad_record all_built (table used (directory ∷ directory ∷ directory ∷ file_of 4292609 ∷ []) []) 3 ≡ true
a_long_file = refl

no_kind : is_bad_record all_built (table used (directory ∷ directory ∷ None ∷ []) []) 2 ≡ true
no_kind = refl

-- an inode that isn't used is none
not_used : is_bad_record all_built (table (true ∷ true ∷ false ∷ []) [] []) 2 ≡ false
not_used = refl

-- a directory in directory 1, an entry of a file, and one of a number that is no inode
a_gone_directory : lowest (is_bad_slot all_built (table used attrs (slots_in 1 0))) 7 ≡ Some 2
a_gone_directory = refl

in_a_file : lowest (is_bad_slot all_built (table used attrs (slots_in 0 3))) 7 ≡ Some 6
in_a_file = refl

in_no_inode : lowest (is_bad_slot all_built (table used attrs (slots_in 0 7))) 7 ≡ Some 6
in_no_inode = refl

-- `/a` and `/b` in each other are in a ring, and so are those below them
a_ring : lowest (is_in_ring (table used attrs (slots_in 6 2))) 7 ≡ Some 2
a_ring = refl

below_a_ring : is_in_ring (table used attrs (slots_in 6 2)) 3 ≡ true
below_a_ring = refl

-- a gone file is in none
gone_in_no_ring : is_in_ring (table used attrs (slots_in 6 2)) 4 ≡ false
gone_in_no_ring = refl

-- two entries `f` of directory 2
twins : lowest (is_twin (table used attrs (None ∷ None ∷ slot_of 0 (97 ∷ []) ∷ slot_of 2 (102 ∷ []) ∷ slot_of 2 (102 ∷ []) ∷ None ∷ slot_of 0 (98 ∷ []) ∷ []))) 7 ≡ Some 4
twins = refl

-- the root's slot is no twin, whatever it is
no_twin_of_the_root : lowest (is_twin (table used attrs (slot_of 0 (97 ∷ []) ∷ slot_of 0 (97 ∷ []) ∷ slot_of 0 (97 ∷ []) ∷ []))) 7 ≡ None
no_twin_of_the_root = refl

any_number_without_batches : is_last None 3 ≡ true
any_number_without_batches = refl

the_last_number : is_last (Some 3) 4 ≡ false
the_last_number = refl

-- ---- pointers

two_pages : file_pointers 7 2 ≡ Page 7 0 ∷ Page 7 1 ∷ []
two_pages = refl

beyond_the_record : slice_get (file_pointers 7 25) 24 ≡ Some (ToIndirect 7)
beyond_the_record = refl

in_the_indirect_block : slice_get (file_pointers 7 25) 25 ≡ Some (Page 7 24)
in_the_indirect_block = refl

no_more_pointers : length (file_pointers 7 25) ≡ 26
no_more_pointers = refl

all_pointers : pointers sample ≡ Page 3 0 ∷ Page 3 1 ∷ []
all_pointers = refl

-- ---- rows

abbrev pub contents : ℕ → List ℕ
contents inode = inode ∷ []

a_file : row_at sample contents 3 ≡ Some (record { parent = Some 2; name = 102 ∷ []; body = File (3 ∷ []) })
a_file = refl

a_gone_file : row_at sample contents 4 ≡ Some (record { parent = None; name = []; body = File (4 ∷ []) })
a_gone_file = refl

the_root : row_at sample contents 0 ≡ Some (record { parent = None; name = []; body = Dir 7 })
the_root = refl

no_row_of_the_orphan_directory : row_at sample contents 1 ≡ None
no_row_of_the_orphan_directory = refl

the_gone_files : gone sample contents ≡ 4 ∷ []
the_gone_files = refl

a_serial : serial_of (0 ∷ 5 ∷ 2 ∷ []) 2 ≡ 2
a_serial = refl

an_inode : inode_in (0 ∷ 5 ∷ 2 ∷ []) 1 ≡ 5
an_inode = refl
