-- Updates that follow each other: the tree after them, the changes that they make, and what they need of the inodes.
-- The comments share an example: from the root alone a first update makes `/a` with the serial 1, and a second one `/a/f` with the
-- serial 2. The inodes 0 5 7 are those of the serials 0, 1 and 2.
use Rattle.std.specs.Prelude.{◌≡◌, ◌≢◌, ℕ, ◌<◌, ◌≤◌, true, Some, List, [], ◌∷◌, ◌++◌, length}
use Rattle.std.specs.FinMap.{get}
use Rattle.ccfs_base.specs.Names.{is_name}
use Rattle.tree_model.specs.declared.rows.Row.{Row}
use Rattle.tree_model.specs.declared.rows.Update.{Update}
use Rattle.tree_model.specs.declared.rows.Update.TheVariants.{Make, Write, Resize, Remove, Move, Release}
use Rattle.tree_model.specs.Rows.{Rows}
use Rattle.tree_model.specs.Updates.{apply, Fits}
use Rattle.image_model.specs.Carrying.{inode_in}
use Rattle.image_model.specs.Changes.{Change, changes_of}

-- the tree after updates, in their order: that of `/a` and `/a/f`
abbrev pub tree_after : Rows → List Update → Rows
tree_after t [] = t
tree_after t (u ∷ more) = tree_after (apply t u) more

-- the changes of all of them, in their order: New of inode 5, Touch of inode 0, New of inode 7, Touch of inode 5
abbrev pub changes_of_all : List ℕ → Rows → List Update → List Change
changes_of_all inodes t [] = []
changes_of_all inodes t (u ∷ more) = changes_of inodes t u ++ changes_of_all inodes (apply t u) more

-- each of them fits the tree at its place: the second one fits behind the first one, and not before it
abbrev pub AllFit : Rows → List Update → Type 0
AllFit t [] = Unit {0}
AllFit t (u ∷ more) = Fits t u × AllFit (apply t u) more

-- no row of a tree has this inode: 7 is no row's after the first update
abbrev pub IsNoRows : List ℕ → Rows → ℕ → Type 0
IsNoRows inodes t inode = (s : ℕ) (r : Row) → get t s ≡ Some r → inode_in inodes s ≢ inode

-- The inode that a new row is to have stands at its place, is from 2 on and one of so many, and is no row's. The first update has
-- 5 at the place 1
abbrev pub HasItsInode : ℕ → List ℕ → Rows → Update → Type 0
HasItsInode count inodes t (Make dir name id is_dir) =
    (id < length inodes) × (2 ≤ inode_in inodes id) × (inode_in inodes id < count) × IsNoRows inodes t (inode_in inodes id)
HasItsInode count inodes t (Write id off bytes) = Unit {0}
HasItsInode count inodes t (Resize id len) = Unit {0}
HasItsInode count inodes t (Remove dir name id stays) = Unit {0}
HasItsInode count inodes t (Move dir name to_dir to_name id is_dir replaced stays) = Unit {0}
HasItsInode count inodes t (Release id) = Unit {0}

-- each new row has its inode at its place among the updates: 5 and then 7, where there are 32 inodes
abbrev pub AllHaveInodes : ℕ → List ℕ → Rows → List Update → Type 0
AllHaveInodes count inodes t [] = Unit {0}
AllHaveInodes count inodes t (u ∷ more) = HasItsInode count inodes t u × AllHaveInodes count inodes (apply t u) more

-- the name that an update gives is a name: `a` is, and the empty one isn't
abbrev pub IsNamed : Update → Type 0
IsNamed (Make dir name id is_dir) = is_name name ≡ true
IsNamed (Write id off bytes) = Unit {0}
IsNamed (Resize id len) = Unit {0}
IsNamed (Remove dir name id stays) = Unit {0}
IsNamed (Move dir name to_dir to_name id is_dir replaced stays) = is_name to_name ≡ true
IsNamed (Release id) = Unit {0}

-- each of them gives a name: `a` and `f`
abbrev pub AllNamed : List Update → Type 0
AllNamed [] = Unit {0}
AllNamed (u ∷ more) = IsNamed u × AllNamed more
