-- The pointers and the bytes of files.
use Rattle.std.specs.Prelude.{ℕ, ◌+◌, ◌-◌, ◌*◌, min, Bool, true, false, cond, ◌&&◌, nat_lt, Option, Some, None, List, [], ◌∷◌, ◌++◌, take, map, flat_map}
use Rattle.std.specs.List.{range_with_len}
use Rattle.ccfs_base.specs.Limits.{pages}
use Rattle.inode_table.specs.declared.attrs.Kind.{Kind}
use Rattle.inode_table.specs.declared.attrs.Kind.TheVariants as kinds
use Rattle.inode_table.specs.declared.attrs.Attr.{Attr}
use Rattle.inode_table.specs.Records.{record_block}
use Rattle.image_model.specs.declared.pointer.Pointer.{Pointer}
use Rattle.image_model.specs.declared.pointer.Pointer.TheVariants.{Page, ToIndirect}
use Rattle.image_model.specs.Fields.{block_place, direct_pages, direct_place, indirect_place}
use Rattle.image_model.specs.Volumes.{Volume, Table, table_of, number_at, block_bytes, attr}

-- ---- files

abbrev pub is_dir_kind : Kind → Bool
is_dir_kind kinds.Dir = true
is_dir_kind kinds.File = false

-- whether attributes are a directory's, and whether they are a file's; where there are none they are neither's
abbrev pub is_dir_attr : Option Attr → Bool
is_dir_attr None = false
is_dir_attr (Some a) = is_dir_kind a.kind

abbrev pub is_file_attr : Option Attr → Bool
is_file_attr None = false
is_file_attr (Some a) = cond (is_dir_kind a.kind) false true

-- whether an inode is a used directory, and whether it is a used file: 0 is a directory in each sound table. A number from
-- the number of inodes on is neither
abbrev pub is_dir_at : Table → ℕ → Bool
is_dir_at t inode = nat_lt inode t.inodes && (t.is_used inode && is_dir_attr (t.attr inode))

abbrev pub is_file_at : Table → ℕ → Bool
is_file_at t inode = nat_lt inode t.inodes && (t.is_used inode && is_file_attr (t.attr inode))

-- the length that attributes tell
abbrev pub length_told : Option Attr → ℕ
length_told None = 0
length_told (Some a) = a.length

abbrev pub length_at : Table → ℕ → ℕ
length_at t inode = length_told (t.attr inode)

-- ---- pointers

-- the pointers of a file of so many pages: first of its pages 0 to 23, then the one to the indirect block, then those in it.
-- Of 2 pages they are pages 0 and 1; of 25 they are 26 pointers
abbrev pub file_pointers : ℕ → ℕ → List Pointer
file_pointers inode count =
    map (Page inode) (range_with_len 0 (min count direct_pages))
    ++ cond (nat_lt direct_pages count) (ToIndirect inode ∷ map (Page inode) (range_with_len direct_pages (count - direct_pages))) []

-- the pointers of an inode that are looked at: those of a used file
abbrev pub pointers_at : Table → ℕ → List Pointer
pointers_at t inode = cond (is_file_at t inode) (file_pointers inode (pages (length_at t inode))) []

-- all pointers that are looked at, in order of inodes
abbrev pub pointers : Table → List Pointer
pointers t = flat_map (pointers_at t) (range_with_len 0 t.inodes)

-- the block that the pointer to the indirect block names
abbrev pub indirect : Volume → ℕ → ℕ
indirect v inode = number_at 4 (indirect_place inode) v

-- the block that a pointer names. That of page 24 is the first 4 bytes of the indirect block
abbrev pub named : Volume → Pointer → ℕ
named v (Page inode page) =
    cond (nat_lt page direct_pages)
    (number_at 4 (direct_place inode page) v)
    (number_at 4 (block_place (indirect v inode) + 4 * (page - direct_pages)) v)
named v (ToIndirect inode) = indirect v inode

-- the block in which a pointer stands
abbrev pub holder : Volume → Pointer → ℕ
holder v (Page inode page) = cond (nat_lt page direct_pages) (record_block inode) (indirect v inode)
holder v (ToIndirect inode) = record_block inode

-- the blocks that pointers name, in their order
abbrev pub named_blocks : Volume → List ℕ
named_blocks v = map (named v) (pointers (table_of v))

-- ---- bytes

-- the bytes of a file: its pages one behind the other, cut at its length. Of a file of 5,000 bytes they are the 4,096 of
-- page 0 and the first 904 of page 1
abbrev pub file_bytes : Volume → ℕ → List ℕ
file_bytes v inode =
    let long = length_told (attr v inode) in
    take long (flat_map (λ page. block_bytes v (named v (Page inode page))) (range_with_len 0 (pages long)))
