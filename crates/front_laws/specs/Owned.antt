-- Which stream owns the inodes that unsealed updates act on.
-- The comments share an example: stream 1 made `/a` with the serial 1, and removed `/b` with the serial 2, and neither is sealed.
use Rattle.std.specs.Prelude.{◌≡◌, ◌⊎◌, ℕ, Bool, true, false, ◌==◌, ◌&&◌, Some, List, [], ◌∷◌}
use Rattle.std.specs.FinMap.{get}
use Rattle.std.specs.List.{list_any}
use Rattle.std.specs.Cmp.Lexicographic.{pointwise}
use Rattle.stream_cuts.specs.Forced.{Numbered}
use Rattle.tree_model.specs.declared.rows.Row.{Row}
use Rattle.tree_model.specs.declared.rows.Update.{Update}
use Rattle.tree_model.specs.declared.rows.Update.TheVariants.{Make, Write, Resize, Remove, Move, Release}
use Rattle.tree_model.specs.declared.keys.Key.{Key}
use Rattle.tree_model.specs.declared.keys.Key.TheVariants.{Entry, Node, Shape}
use Rattle.tree_model.specs.Keys.{keys_of}
use Rattle.tree_model.specs.Rows.{Rows, place_of}
use Rattle.tree_cuts.specs.Calls.{Charged}
use Rattle.front_laws.specs.Inodes.{dropped, given, has}
use Rattle.image_model.specs.Carrying.{inode_in}

-- it is one of the updates
abbrev pub Among : ℕ × Charged → List (ℕ × Charged) → Type 0
Among e [] = ⊥
Among e (f ∷ more) = (f ≡ e) ⊎ Among e more

-- there is a row
abbrev pub IsRow : Rows → ℕ → Type 0
IsRow t x = (r : Row) × (get t x ≡ Some r)

-- whether a key is that of a node, changed or needed
abbrev pub is_node : ℕ → Key → Bool
is_node x (Entry dir name changed) = false
is_node x (Node id changed) = id == x
is_node x Shape = false

-- whether an update changes or needs a node: making `/a` needs the node 0 and changes the node 1
abbrev pub has_node : ℕ → Update → Bool
has_node x u = list_any (is_node x) (keys_of u)

-- whether a key is that of an entry
abbrev pub is_entry_key : ℕ → List ℕ → Key → Bool
is_entry_key d n (Entry dir name changed) = dir == d && pointwise ◌==◌ name n
is_entry_key d n (Node id changed) = false
is_entry_key d n Shape = false

-- whether an update changes an entry: making `/a` changes the entry `a` of 0
abbrev pub changes_entry : ℕ → List ℕ → Update → Bool
changes_entry d n u = list_any (is_entry_key d n) (keys_of u)

-- whether an update gives a row an entry: making `/a` does for 1, and so does moving it
abbrev pub places : ℕ → Update → Bool
places x (Make dir name id is_dir) = id == x
places x (Write id off bytes) = false
places x (Resize id len) = false
places x (Remove dir name id stays) = false
places x (Move dir name to_dir to_name id is_dir replaced stays) = id == x
places x (Release id) = false

-- an unsealed update of a stream dropped a row: one of stream 1 dropped 2
abbrev pub IsDroppedBy : List (ℕ × Charged) → ℕ → ℕ → Type 0
IsDroppedBy unsealed s x = (f : ℕ × Charged) × Among f unsealed × (f.0 ≡ s) × (has x (dropped f.1.0) ≡ true)

-- an unsealed update of a stream changed the entry at which a row stands: one of stream 1 did of `/a`
abbrev pub IsEnteredBy : List (ℕ × Charged) → ℕ → Rows → ℕ → Type 0
IsEnteredBy unsealed s t x = (d : ℕ) × ((n : List ℕ) × (place_of t x ≡ Some (d, n)) × ((f : ℕ × Charged) × Among f unsealed × (f.0 ≡ s) × (changes_entry d n f.1.0 ≡ true)))

-- No row has an inode that an unsealed update gave up. What an unsealed update changes or needs is a row still, or an unsealed update
-- of the same stream dropped it. Where it gave a row an entry, the row stands at one that an unsealed update of the same stream
-- changed, or such a one dropped the row. So updates of different streams that don't meet act on different inodes, but for counts.
pub record AreOwned (inodes : List ℕ) (t : Rows) (unsealed : List (ℕ × Charged)) : Type 0 where
  pub held : (x : ℕ) → IsRow t x → has (inode_in inodes x) (given inodes unsealed) ≡ false
  pub nodes : (e : ℕ × Charged) → Among e unsealed → (x : ℕ) → has_node x e.1.0 ≡ true → IsRow t x ⊎ IsDroppedBy unsealed e.0 x
  pub entries : (e : ℕ × Charged) → Among e unsealed → (x : ℕ) → places x e.1.0 ≡ true → IsEnteredBy unsealed e.0 t x ⊎ IsDroppedBy unsealed e.0 x
  pub numbered : Numbered unsealed
