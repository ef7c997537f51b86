-- The entries of a directory.
use Rattle.std.specs.Prelude.{ℕ, Bool, false, cond, ◌==◌, List, [], ◌∷◌}
use Rattle.std.specs.declared.option.Option.{Option}
use Rattle.std.specs.declared.option.Option.TheVariants.{None, Some}
use Rattle.std.specs.Ordering.{nat_cmp}
use Rattle.std.specs.Cmp.Lexicographic.{slice_cmp}
use Rattle.std.specs.FinMap.{FinMap, get, entries, from_entries}
use Rattle.tree_model.specs.declared.rows.Row.{Row}
use Rattle.tree_model.specs.Rows.{Rows}

-- whether the parent of a row is d
abbrev pub is_parent : Option ℕ → ℕ → Bool
is_parent None d = false
is_parent (Some p) d = p == d

-- the entries of the directory d among these rows, each by its name
abbrev pub entries_among : ℕ → List (ℕ × Row) → List (List ℕ × ℕ)
entries_among d [] = []
entries_among d (e ∷ es) = cond (is_parent e.1.parent d) ((e.1.name, e.0) ∷ entries_among d es) (entries_among d es)

-- names in byte order with the serials that they name, as `B` 4, `a` 1, `a.b` 3
abbrev pub Index : Type 0
Index = FinMap (slice_cmp nat_cmp) ℕ

-- the entries of a directory by their names in byte order (of two rows at one place, which no tree has, the one with
-- the lower serial)
abbrev pub entries_of : Rows → ℕ → Index
entries_of t d = from_entries (entries_among d (entries t))

-- the serial of the entry n of d: of `a` in 0 the serial of `/a`
abbrev pub entry : Rows → ℕ → List ℕ → Option ℕ
entry t d n = get (entries_of t d) n

-- the names and serials of the entries of d, in byte order of names
abbrev pub children : Rows → ℕ → List (List ℕ × ℕ)
children t d = entries (entries_of t d)
