-- The tree that a volume stands for: by inodes, and by serials.
use Rattle.std.specs.Prelude.{ℕ, zero, suc, Bool, false, cond, not, ◌&&◌, ◌==◌, nat_lt, is_none, Option, Some, None, option_map, List, [], ◌∷◌, ◌++◌, length, filter, slice_index}
use Rattle.std.specs.List.{range_with_len, flat_map, position_or_len}
use Rattle.std.specs.FinMap.{empty, len}
use Rattle.inode_table.specs.declared.attrs.Kind.{Kind}
use Rattle.inode_table.specs.declared.attrs.Kind.TheVariants as kinds
use Rattle.inode_table.specs.declared.attrs.Attr.{Attr}
use Rattle.flat_dirs.specs.declared.slot.Slot.{Slot}
use Rattle.tree_model.specs.declared.rows.Body.{Body}
use Rattle.tree_model.specs.declared.rows.Body.TheVariants.{Dir, File}
use Rattle.tree_model.specs.declared.rows.Row.{Row}
use Rattle.tree_model.specs.Rows.{Rows}
use Rattle.tree_model.specs.Entries.{children}
use Rattle.tree_model.specs.Updates.{store}
use Rattle.image_model.specs.Volumes.{Volume, Table, table_of}
use Rattle.image_model.specs.Files.{file_bytes}

-- ---- by inodes

-- whether an inode has a row: it is used, and isn't the orphan directory
abbrev pub has_row : Table → ℕ → Bool
has_row t inode = nat_lt inode t.inodes && (t.is_used inode && not (inode == 1))

-- the slot of an inode that is looked at: that of the root isn't
abbrev pub slot_seen : Table → ℕ → Option Slot
slot_seen t inode = cond (inode == 0) None (t.slot inode)

-- the parent that a slot gives a row, and the name: none where there is no slot, or where it is in the orphan directory
abbrev pub parent_given : Option Slot → Option ℕ
parent_given None = None
parent_given (Some s) = cond (s.parent == 1) None (Some s.parent)

abbrev pub name_given : Option Slot → List ℕ
name_given None = []
name_given (Some s) = cond (s.parent == 1) [] s.name

-- what an inode is: of a directory its changes count, and of a file its bytes; a kind that is none stands for an empty file
abbrev pub body_of_kind : Kind → ℕ → List ℕ → Body
body_of_kind kinds.Dir changes bytes = Dir changes
body_of_kind kinds.File changes bytes = File bytes

abbrev pub body_given : Option Attr → List ℕ → Body
body_given None bytes = File []
body_given (Some a) bytes = body_of_kind a.kind a.changes bytes

-- the row of an inode, with an inode for its parent; `files` tells the bytes of the files. Of inode 3 with the slot of `f` in
-- directory 2 it has the parent 2 and the name `f`
abbrev pub row_by_inode : Table → (ℕ → List ℕ) → ℕ → Row
row_by_inode t files inode = record {
  parent = parent_given (slot_seen t inode);
  name = name_given (slot_seen t inode);
  body = body_given (t.attr inode) (files inode);
}

abbrev pub row_at : Table → (ℕ → List ℕ) → ℕ → Option Row
row_at t files inode = cond (has_row t inode) (Some (row_by_inode t files inode)) None

-- the rows of the numbers below n
abbrev pub rows_below : (ℕ → Option Row) → ℕ → Rows
rows_below row zero = empty
rows_below row (suc n) = store (rows_below row n) n (row n)

-- the rows of a table
abbrev pub by_inodes : Table → (ℕ → List ℕ) → Rows
by_inodes t files = rows_below (row_at t files) t.inodes

-- ---- by serials

-- x and what is below it, in preorder, at most that many levels down; entries are taken in byte order of their names. Of `/a`,
-- `/a/f` and `/b` from the root the root, `/a`, `/a/f` and `/b`
abbrev pub preorder : ℕ → Rows → ℕ → List ℕ
preorder zero rows x = x ∷ []
preorder (suc levels) rows x = x ∷ flat_map (λ e. preorder levels rows e.1) (children rows x)

-- whether there is a row, and it stands nowhere
abbrev pub is_unplaced : Option Row → Bool
is_unplaced None = false
is_unplaced (Some r) = is_none r.parent

-- the files that stand nowhere, in order of inodes. The root stands nowhere too, and is none of them
abbrev pub gone : Table → (ℕ → List ℕ) → List ℕ
gone t files = filter (λ inode. not (inode == 0) && is_unplaced (row_at t files inode)) (range_with_len 0 t.inodes)

-- the inodes of all rows in order of their serials: those of the picture in preorder, and then the gone files
abbrev pub inodes_of : Table → (ℕ → List ℕ) → List ℕ
inodes_of t files = preorder (len (by_inodes t files)) (by_inodes t files) 0 ++ gone t files

-- the serial of an inode: its place among them. Of 0 5 2 inode 2 has the serial 2
abbrev pub serial_of : List ℕ → ℕ → ℕ
serial_of inodes inode = position_or_len (λ other. other == inode) inodes

-- a row with another number for its parent
abbrev pub with_parent : (ℕ → ℕ) → Row → Row
with_parent number r = record r { parent = option_map number r.parent }

-- the row of a serial, with a serial for its parent
abbrev pub row_by_serial : Table → (ℕ → List ℕ) → ℕ → Option Row
row_by_serial t files s = option_map (with_parent (serial_of (inodes_of t files))) (row_at t files (slice_index (inodes_of t files) s))

-- the rows of a table by serials
abbrev pub by_serials : Table → (ℕ → List ℕ) → Rows
by_serials t files = rows_below (row_by_serial t files) (length (inodes_of t files))

-- the tree that a volume stands for, where no check fails
abbrev pub tree_of : Volume → Rows
tree_of v = by_serials (table_of v) (file_bytes v)
