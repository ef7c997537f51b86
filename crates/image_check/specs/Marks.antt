-- Marks on inodes that are below the root.
use Rattle.std.specs.Prelude.{◌≡◌, ℕ, ◌<◌, Bool, true, false, Option, Some, None, List, length, slice_index_or}
use Rattle.tree_model.specs.Rows.{up}
use Rattle.image_model.specs.Volumes.{Table}
use Rattle.image_model.specs.Lowest.{NoneBelow}
use Rattle.image_model.specs.Checks.{parent_at}

-- whether there is an inode, and it is marked: of the marks true false 0 is marked, and neither 1 nor 2 is
abbrev pub marked_at : List Bool → Option ℕ → Bool
marked_at marks None = false
marked_at marks (Some inode) = slice_index_or marks inode false

-- whether so many steps up from an inode lead to a marked one: where the root is marked, from `/a/f` 2 steps do
abbrev pub is_marked_above : Table → List Bool → ℕ → ℕ → Bool
is_marked_above t marks inode steps = marked_at marks (up (parent_at t) steps inode)

-- the chain of parents of an inode comes to the root
abbrev pub Climbs : Table → ℕ → Type 0
Climbs t inode = (steps : ℕ) × (up (parent_at t) steps inode ≡ Some 0)

-- Marks on inodes: the root has one, and all that have one are below the root.
pub record AreMarks (t : Table) (marks : List Bool) : Type 0 where
  pub long : length marks ≡ t.inodes
  pub root : slice_index_or marks 0 false ≡ true
  pub sound : (inode : ℕ) → slice_index_or marks inode false ≡ true → Climbs t inode

-- the inode and those above it are marked, so many in all, as far as there are inodes: 2 steps from `/a/f` it is so where `/a/f`
-- and `/a` are marked
abbrev pub AreMarkedUp : Table → List Bool → ℕ → ℕ → Type 0
AreMarkedUp t marks inode steps =
    (k x : ℕ) → k < steps → up (parent_at t) k inode ≡ Some x → x < length marks → slice_index_or marks x false ≡ true

-- The walk from an inode up to the first marked one leaves marks on all that it passes. Where the root alone was marked, they
-- are on `/a/f` and `/a` behind the walk from `/a/f`.
abbrev pub MarksItsWalk : Table → List Bool → List Bool → ℕ → Type 0
MarksItsWalk t old new inode = (steps : ℕ) → NoneBelow (is_marked_above t old inode) steps → AreMarkedUp t new inode steps
