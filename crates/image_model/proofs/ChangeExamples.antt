-- The examples of changes, computed.
use Rattle.std.proofs.Common.{◌≡◌, [], ◌∷◌, refl, ap, arith}
use Rattle.std.proofs.lemmas.Fmt.{decimal-digits_of}
use Rattle.std.specs.Prelude.{true, false, Option, Some, None}
use Rattle.std.specs.FinMap.{empty}
use Rattle.ccfs_base.specs.declared.records.Rec.TheVariants as recs
use Rattle.inode_table.specs.declared.attrs.Attr.{Attr}
use Rattle.inode_table.specs.declared.attrs.Kind.TheVariants as kinds
use Rattle.tree_model.specs.declared.rows.Update.TheVariants.{Make, Remove, Move}
use Rattle.image_model.specs.Volumes.{Table}
use Rattle.image_model.specs.Changes.{New, Drop, Touch, Enter, Fill, records_of, table_after, files_after, orphan_name, changes_of}
use Rattle.image_model.proofs.Examples.{slot_of, table, contents}

-- ---- a table: inode 2 is `/b`, 3 is `/a`, 4 a gone file, and 6 is `/a/f`

abbrev a_dir : Option Attr
a_dir = Some (record { kind = kinds.Dir; length = 0; changes = 1 })

abbrev a_file : Option Attr
a_file = Some (record { kind = kinds.File; length = 0; changes = 0 })

abbrev unsorted : Table
unsorted = table (true ∷ true ∷ true ∷ true ∷ true ∷ false ∷ true ∷ []) (a_dir ∷ a_dir ∷ a_dir ∷ a_dir ∷ a_file ∷ None ∷ a_file ∷ [])
    (None ∷ None ∷ slot_of 0 (98 ∷ []) ∷ slot_of 0 (97 ∷ []) ∷ slot_of 1 (35 ∷ 52 ∷ []) ∷ None ∷ slot_of 3 (102 ∷ []) ∷ [])

-- ---- the records of changes, in a volume of 64 inodes

touched : records_of 64 (Touch 17) ≡ recs.Add 16656 1 ∷ []
touched = refl

dropped : records_of 64 (Drop 9) ≡ recs.Bit 8193 1 false ∷ recs.Add 16 1 ∷ []
dropped = refl

filled : records_of 64 (Fill 17 (7 ∷ 8 ∷ [])) ≡ recs.Range 16648 (2 ∷ 0 ∷ 0 ∷ 0 ∷ 0 ∷ 0 ∷ 0 ∷ 0 ∷ []) ∷ []
filled = refl

-- ---- tables and files after changes

used_no_more : (table_after unsorted (Drop 6)).is_used 6 ≡ false
used_no_more = refl

others_stay : (table_after unsorted (Drop 6)).is_used 2 ≡ true
others_stay = refl

entered : (table_after unsorted (Enter 6 2 (103 ∷ []))).slot 6 ≡ slot_of 2 (103 ∷ [])
entered = refl

counted : (table_after unsorted (Touch 3)).attr 3 ≡ Some (record { kind = kinds.Dir; length = 0; changes = 2 })
counted = refl

empty_when_new : files_after contents (New 5 0 (99 ∷ []) kinds.File) 5 ≡ []
empty_when_new = refl

-- ---- the changes of updates, where the serial 1 has inode 5

a_number_for_a_name : orphan_name 12 ≡ 35 ∷ 49 ∷ 50 ∷ []
a_number_for_a_name = ap (λ digits. 35 ∷ digits) (decimal-digits_of 12 (omega arith) (omega arith))

made : changes_of (0 ∷ 5 ∷ []) empty (Make 0 (97 ∷ []) 1 true) ≡ New 5 0 (97 ∷ []) kinds.Dir ∷ Touch 0 ∷ []
made = refl

moved_within_a_directory : changes_of (0 ∷ 5 ∷ []) empty (Move 0 (97 ∷ []) 0 (98 ∷ []) 1 false None false) ≡ Enter 5 0 (98 ∷ []) ∷ Touch 0 ∷ Touch 0 ∷ []
moved_within_a_directory = refl

removed_while_open : changes_of (0 ∷ 5 ∷ []) empty (Remove 0 (97 ∷ []) 1 true) ≡ Enter 5 1 (orphan_name 5) ∷ Touch 0 ∷ []
removed_while_open = refl
