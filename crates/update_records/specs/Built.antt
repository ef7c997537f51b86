-- The updates whose records are built, and what these records are.
use Rattle.std.specs.Prelude.{◌≡◌, ℕ, ◌<◌, Bool, true, false, not, Option, Some, None, List}
use Rattle.ccfs_base.specs.declared.records.Rec.{Rec}
use Rattle.tree_model.specs.declared.rows.Update.{Update}
use Rattle.tree_model.specs.declared.rows.Update.TheVariants.{Make, Write, Resize, Remove, Move, Release}
use Rattle.tree_model.specs.Rows.{Rows}
use Rattle.image_model.specs.Changes.{all_records, changes_of}

-- Rows that are made, and entries that are removed or moved where no open file stays. Making `/a` is built, writing to it isn't
abbrev pub is_built : Update → Bool
is_built (Make dir name id is_dir) = true
is_built (Write id off bytes) = false
is_built (Resize id len) = false
is_built (Remove dir name id stays) = not stays
is_built (Move dir name to_dir to_name id is_dir replaced stays) = not stays
is_built (Release id) = false

-- there is no serial, or it is below n: None and Some 2 are below 3
abbrev pub IsAtMostBelow : ℕ → Option ℕ → Type 0
IsAtMostBelow n None = Unit {0}
IsAtMostBelow n (Some x) = x < n

-- The serials whose inodes the records need are below n. Making a row with the serial 2 in the root is below 3, and not below 2
abbrev pub AreSerialsBelow : ℕ → Update → Type 0
AreSerialsBelow n (Make dir name id is_dir) = (dir < n) × (id < n)
AreSerialsBelow n (Write id off bytes) = Unit {0}
AreSerialsBelow n (Resize id len) = Unit {0}
AreSerialsBelow n (Remove dir name id stays) = (dir < n) × (id < n)
AreSerialsBelow n (Move dir name to_dir to_name id is_dir replaced stays) = (dir < n) × (to_dir < n) × (id < n) × IsAtMostBelow n replaced
AreSerialsBelow n (Release id) = Unit {0}

-- These are the records of the update in a volume of so many inodes, where `inodes` has the inode of each serial. Whatever the tree
-- is, they are the same: only writing and resizing a file look at it
abbrev pub AreItsRecords : ℕ → List ℕ → Update → List Rec → Type 0
AreItsRecords count inodes u records = (t : Rows) → records ≡ all_records count (changes_of inodes t u)
