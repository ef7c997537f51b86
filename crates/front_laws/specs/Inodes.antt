-- The inodes of rows that updates make and drop, and the rule by which a new row gets one.
-- The comments share an example: of an image of 32 inodes the tree has the root under the inode 0 and `/a` under the inode 2, and an
-- update that isn't sealed removed a file with the inode 3.
use Rattle.std.specs.Prelude.{◌≡◌, ℕ, ◌<◌, ◌≤◌, Bool, true, false, ◌==◌, Option, None, Some, List, [], ◌∷◌, ◌++◌, length, map, flat_map}
use Rattle.std.specs.List.{list_any}
use Rattle.tree_model.specs.declared.rows.Update.{Update}
use Rattle.tree_model.specs.declared.rows.Update.TheVariants.{Make, Write, Resize, Remove, Move, Release}
use Rattle.tree_model.specs.declared.rows.Entry.{Entry}
use Rattle.tree_model.specs.Rows.{Rows}
use Rattle.tree_cuts.specs.Calls.{Sizes, Charged}
use Rattle.history_model.specs.State.{Now}
use Rattle.history_model.specs.Histories.{entered_by}
use Rattle.image_model.specs.Carrying.{inode_in}
use Rattle.update_records.specs.Batches.{IsNoRows}

-- the row that loses its entry is dropped, but where it stays as an open file
abbrev pub left_out : ℕ → Bool → List ℕ
left_out id true = []
left_out id false = id ∷ []

-- the same of a row that a move replaces, if there is one
abbrev pub left_out_for : Option ℕ → Bool → List ℕ
left_out_for None stays = []
left_out_for (Some x) stays = left_out x stays

-- the rows that an update drops: removing the file with the serial 7 drops 7, and making one drops none
abbrev pub dropped : Update → List ℕ
dropped (Make dir name id is_dir) = []
dropped (Write id off bytes) = []
dropped (Resize id len) = []
dropped (Remove dir name id stays) = left_out id stays
dropped (Move dir name to_dir to_name id is_dir replaced stays) = left_out_for replaced stays
dropped (Release id) = id ∷ []

-- the inodes that an update gives up: those of the rows that it drops
abbrev pub given_by : List ℕ → Update → List ℕ
given_by inodes u = map (inode_in inodes) (dropped u)

-- the inodes that unsealed updates gave up: 3 in the example
abbrev pub given : List ℕ → List (ℕ × Charged) → List ℕ
given inodes unsealed = flat_map (λ e. given_by inodes e.1.0) unsealed

-- whether a number is in a list
abbrev pub has : ℕ → List ℕ → Bool
has i all = list_any (λ j. j == i) all

-- An inode is free for a new row: no row has it, and no unsealed update gave it up. In the example 4 is, and neither 2 nor 3.
pub record IsFree (inodes : List ℕ) (t : Rows) (unsealed : List (ℕ × Charged)) (i : ℕ) : Type 0 where
  pub no_row : IsNoRows inodes t i
  pub not_given : has i (given inodes unsealed) ≡ false

-- It is the lowest that is, from 2 on, of so many: 4 in the example.
pub record IsLowestFree (count : ℕ) (inodes : List ℕ) (t : Rows) (unsealed : List (ℕ × Charged)) (i : ℕ) : Type 0 where
  pub high : 2 ≤ i
  pub there : i < count
  pub free : IsFree inodes t unsealed i
  pub lowest : (j : ℕ) → 2 ≤ j → j < i → IsFree inodes t unsealed j → ⊥

-- the row that an update makes has at its place the lowest inode that is free, once the streams are sealed that the update seals
abbrev pub HasLowest : ℕ → List ℕ → Rows → List (ℕ × Charged) → Update → Type 0
HasLowest count inodes t unsealed (Make dir name id is_dir) = (id < length inodes) × IsLowestFree count inodes t unsealed (inode_in inodes id)
HasLowest count inodes t unsealed (Write id off bytes) = Unit {0}
HasLowest count inodes t unsealed (Resize id len) = Unit {0}
HasLowest count inodes t unsealed (Remove dir name id stays) = Unit {0}
HasLowest count inodes t unsealed (Move dir name to_dir to_name id is_dir replaced stays) = Unit {0}
HasLowest count inodes t unsealed (Release id) = Unit {0}

-- the same of an update or none
abbrev pub HasLowestIf : ℕ → List ℕ → Rows → List (ℕ × Charged) → Option Update → Type 0
HasLowestIf count inodes t unsealed None = Unit {0}
HasLowestIf count inodes t unsealed (Some u) = HasLowest count inodes t unsealed u

-- Each new row of a history got its inode so. What is unsealed once its entry is made is what was unsealed behind the entry's seals,
-- and the update, which gives up nothing.
abbrev pub AllHaveLowest : Sizes → List ℕ → Now → List Entry → Type 0
AllHaveLowest sizes inodes n [] = Unit {0}
AllHaveLowest sizes inodes n (e ∷ h) =
    HasLowestIf sizes.inodes inodes n.tree (entered_by sizes n e).unsealed e.update × AllHaveLowest sizes inodes (entered_by sizes n e) h

-- the inodes with that of a new row, where an update makes one
abbrev pub with_inode : Option Update → ℕ → List ℕ → List ℕ
with_inode None i inodes = inodes
with_inode (Some (Make dir name id is_dir)) i inodes = inodes ++ i ∷ []
with_inode (Some u) i inodes = inodes
