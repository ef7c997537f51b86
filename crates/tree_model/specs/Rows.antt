-- The rows of a tree, and what makes rows a tree.
use Rattle.std.specs.Prelude.{◌≡◌, ℕ, zero, suc, ◌≢◌, Bool, true, false, List, []}
use Rattle.std.specs.declared.option.Option.{Option}
use Rattle.std.specs.declared.option.Option.TheVariants.{None, Some}
use Rattle.std.specs.Ordering.{nat_cmp}
use Rattle.std.specs.FinMap.{FinMap, get, insert, empty}
use Rattle.tree_model.specs.declared.rows.Body.{Body}
use Rattle.tree_model.specs.declared.rows.Body.TheVariants.{Dir, File}
use Rattle.tree_model.specs.declared.rows.Row.{Row}

-- the rows of a tree by their serials: 0 is the root's, and in the tree of `/a` and `/a/f` these two may have 1 and 2
abbrev pub Rows : Type 0
Rows = FinMap nat_cmp Row

-- a directory and a name in it, or nowhere: of the parent 1 and the name `f` the pair (1, `f`)
abbrev pub spot : Option ℕ → List ℕ → Option (ℕ × List ℕ)
spot None n = None
spot (Some d) n = Some (d, n)

-- where a row stands: the root nowhere, and `/a/f` at (1, `f`), where `/a` has the serial 1
abbrev pub place : Option Row → Option (ℕ × List ℕ)
place None = None
place (Some r) = spot r.parent r.name

-- whether a body is a directory's
abbrev pub is_dir : Body → Bool
is_dir (Dir changes) = true
is_dir (File bytes) = false

-- what a row is: a directory (true) or a file (false), and nothing where there is no row
abbrev pub kind : Option Row → Option Bool
kind None = None
kind (Some r) = Some (is_dir r.body)

-- whether a row is there and is a directory (for b true) or a file (for b false)
abbrev pub is_kind : Option Bool → Bool → Bool
is_kind None b = false
is_kind (Some true) b = b
is_kind (Some false) true = false
is_kind (Some false) false = true

-- where the row x stands
abbrev pub place_of : Rows → ℕ → Option (ℕ × List ℕ)
place_of t x = place (get t x)

-- what the row x is
abbrev pub kind_of : Rows → ℕ → Option Bool
kind_of t x = kind (get t x)

-- whether x is a directory
abbrev pub is_dir_at : Rows → ℕ → Bool
is_dir_at t x = is_kind (kind_of t x) true

-- the root alone, with this count of changes
abbrev pub alone : ℕ → Rows
alone changes = insert empty 0 (record { parent = None; name = []; body = Dir changes })

-- d is a directory, as 0 in each tree
abbrev pub IsDir : Rows → ℕ → Type 0
IsDir t d = kind_of t d ≡ Some true

-- x is a file
abbrev pub IsFile : Rows → ℕ → Type 0
IsFile t x = kind_of t x ≡ Some false

-- x is the entry n of d: `/a` is the entry `a` of 0
abbrev pub IsEntry : Rows → ℕ → List ℕ → ℕ → Type 0
IsEntry t d n x = place_of t x ≡ Some (d, n)

-- d has no entry n
abbrev pub IsVacant : Rows → ℕ → List ℕ → Type 0
IsVacant t d n = (x : ℕ) → place_of t x ≢ Some (d, n)

-- d has no entry at all
abbrev pub IsEmpty : Rows → ℕ → Type 0
IsEmpty t d = (x : ℕ) (n : List ℕ) → place_of t x ≢ Some (d, n)

-- x is a file without a name: one that was removed while it was open
abbrev pub IsGone : Rows → ℕ → Type 0
IsGone t x = IsFile t x × (place_of t x ≡ None)

-- the directory of a place
abbrev pub parent_in : Option (ℕ × List ℕ) → Option ℕ
parent_in None = None
parent_in (Some p) = Some p.0

-- the directory that the row x stands in
abbrev pub parent_of : Rows → ℕ → Option ℕ
parent_of t x = parent_in (place_of t x)

-- one step up, from a row or from nowhere
abbrev pub up_from : (ℕ → Option ℕ) → Option ℕ → Option ℕ
up_from f None = None
up_from f (Some y) = f y

-- so many steps up from x, where f leads each row to its parent: 2 steps up from `/a/f` is the root, 3 steps up nothing
abbrev pub up : (ℕ → Option ℕ) → ℕ → ℕ → Option ℕ
up f zero x = Some x
up f (suc k) x = up_from f (up f k x)

-- d is neither x nor below it: `/b` is clear of `/a`, and `/a/f` isn't
abbrev pub IsClear : Rows → ℕ → ℕ → Type 0
IsClear t x d = (k : ℕ) → up (parent_of t) k d ≢ Some x

-- what makes rows a tree: the root is a directory without parent and name, each row stands in a directory, no two rows
-- at one place, each row that stands somewhere is below the root, and only files may stand nowhere
pub record IsTree (t : Rows) : Type 0 where
  pub root : (changes : ℕ) × (get t 0 ≡ Some (record { parent = None; name = []; body = Dir changes }))
  pub parents : (x d : ℕ) (n : List ℕ) → IsEntry t d n x → IsDir t d
  pub unique : (x y d : ℕ) (n : List ℕ) → IsEntry t d n x → IsEntry t d n y → x ≡ y
  pub rooted : (x d : ℕ) (n : List ℕ) → IsEntry t d n x → (depth : ℕ) × (up (parent_of t) depth x ≡ Some 0)
  pub gone : (x : ℕ) → x ≢ 0 → place_of t x ≡ None → kind_of t x ≢ Some true
