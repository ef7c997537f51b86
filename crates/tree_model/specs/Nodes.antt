-- Rows with their entries beside them: how a tree is kept.
use Rattle.std.specs.Prelude.{◌≡◌, ℕ, ◌^◌, ◌<◌, Bool, true, false, List, [], map}
use Rattle.std.specs.declared.option.Option.{Option}
use Rattle.std.specs.declared.option.Option.TheVariants.{None, Some}
use Rattle.std.specs.Ordering.{nat_cmp}
use Rattle.std.specs.FinMap.{FinMap, get, insert, remove, empty, entries, from_entries, len}
use Rattle.tree_model.specs.declared.rows.Row.{Row}
use Rattle.tree_model.specs.Rows.{Rows, IsTree}
use Rattle.tree_model.specs.Entries.{Index, entries_of}
use Rattle.tree_model.specs.Updates.{counted, recounted, refilled}

-- a row, and its entries by name
abbrev pub IndexedRow : Type 0
IndexedRow = Row × Index

-- the entries that such a list holds
abbrev pub index_of : List (List ℕ × ℕ) → Index
index_of es = from_entries es

-- such rows by their serials
abbrev pub IndexedRows : Type 0
IndexedRows = FinMap nat_cmp IndexedRow

-- a row whose count of changes, if it is a directory's, grew by 1
abbrev pub counted_row : Row → Row
counted_row r = record r { body = counted r.body }

-- the same of what is kept
abbrev pub counted_node : IndexedRow → IndexedRow
counted_node k = (counted_row k.0, k.1)

-- with its row at this place
abbrev pub placed_node : ℕ → List ℕ → IndexedRow → IndexedRow
placed_node dir name k = (record k.0 { parent = Some dir; name = name }, k.1)

-- with its row at no place
abbrev pub unplaced_node : IndexedRow → IndexedRow
unplaced_node k = (record k.0 { parent = None; name = [] }, k.1)

-- with the bytes of a file as f makes them
abbrev pub refilled_node : (List ℕ → List ℕ) → IndexedRow → IndexedRow
refilled_node f k = (record k.0 { body = refilled f k.0.body }, k.1)

-- with one entry more, or in the place of one of that name
abbrev pub with_entry : List ℕ → ℕ → IndexedRow → IndexedRow
with_entry name id k = (k.0, insert k.1 name id)

-- without the entry of that name
abbrev pub without_entry : List ℕ → IndexedRow → IndexedRow
without_entry name k = (k.0, remove k.1 name)

-- a row whose count of changes, if it is a directory's, is this one
abbrev pub recounted_row : ℕ → Row → Row
recounted_row n r = record r { body = recounted n r.body }

-- with the count of changes as it is told
abbrev pub told : ℕ → IndexedRow → IndexedRow
told n k = (recounted_row n k.0, k.1)

-- with one entry more, and the change counted
abbrev pub entered : List ℕ → ℕ → IndexedRow → IndexedRow
entered name id k = (counted_row k.0, insert k.1 name id)

-- what f makes of the row at x; without such a row all stays
abbrev pub put_at : (IndexedRow → IndexedRow) → IndexedRows → ℕ → Option IndexedRow → IndexedRows
put_at f m x None = m
put_at f m x (Some k) = insert m x (f k)

-- the same at the serial x, where no row may be
abbrev pub on_node : (IndexedRow → IndexedRow) → IndexedRows → ℕ → IndexedRows
on_node f m x = put_at f m x (get m x)

-- with what is left of a removed row: where it stays a file without a name, else nothing
abbrev pub left_in : Bool → IndexedRows → ℕ → IndexedRows
left_in true m x = on_node unplaced_node m x
left_in false m x = remove m x

-- the same of a row that is replaced, if there is one
abbrev pub left_over : Bool → IndexedRows → Option ℕ → IndexedRows
left_over stays m None = m
left_over stays m (Some x) = left_in stays m x

-- the rows alone
abbrev pub rows_in : IndexedRows → Rows
rows_in m = from_entries (map (λ e. (e.0, e.1.0)) (entries m))

-- the entries that are kept at a serial: none where there is no row
abbrev pub index_in : Option IndexedRow → Index
index_in None = empty
index_in (Some k) = k.1

-- the rows are a tree, what is kept beside them are their entries, and there are fewer than 2^32 rows
pub record AreIndexed (m : IndexedRows) : Type 0 where
  pub tree : IsTree (rows_in m)
  pub indexed : (d : ℕ) → index_in (get m d) ≡ entries_of (rows_in m) d
  pub few : len m < 2 ^ 32
