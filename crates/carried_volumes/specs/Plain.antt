-- Trees as images have them until files have bytes and may stay open without a name.
use Rattle.std.specs.Prelude.{◌≡◌, ◌≢◌, ℕ, ◌<◌, ◌≤◌, true, Some, None, []}
use Rattle.std.specs.FinMap.{get}
use Rattle.ccfs_base.specs.Names.{is_name}
use Rattle.tree_model.specs.declared.rows.Body.{Body}
use Rattle.tree_model.specs.declared.rows.Body.TheVariants.{Dir, File}
use Rattle.tree_model.specs.declared.rows.Row.{Row}
use Rattle.tree_model.specs.Rows.{Rows, IsTree}

-- a directory, or a file without bytes
abbrev pub IsBareBody : Body → Type 0
IsBareBody (Dir changes) = Unit {0}
IsBareBody (File bytes) = bytes ≡ []

-- Each row but the root stands in a directory and has a name, and no file has bytes. The root alone is such a tree, and so is one
-- with `/a` and an empty `/a/f`.
pub record IsPlain (t : Rows) : Type 0 where
  pub tree : IsTree t
  pub placed : (s : ℕ) (r : Row) → s ≢ 0 → get t s ≡ Some r → (dir : ℕ) × (r.parent ≡ Some dir)
  pub named : (s : ℕ) (r : Row) → s ≢ 0 → get t s ≡ Some r → is_name r.name ≡ true
  pub bare : (s : ℕ) (r : Row) → get t s ≡ Some r → IsBareBody r.body

-- The serials of a tree are just those below a number: of the root, `/a` and `/a/f` under 0, 1 and 2 those below 3.
pub record IsDense (t : Rows) (n : ℕ) : Type 0 where
  pub below : (s : ℕ) → s < n → get t s ≢ None
  pub above : (s : ℕ) → n ≤ s → get t s ≡ None
