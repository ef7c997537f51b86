-- The laws of updates of trees.
use Rattle.std.specs.Prelude.{◌≡◌, ℕ, Bool, true, false, ◌&&◌, ◌==◌, IsTrue, ◌↔◌}
use Rattle.std.specs.List.{list_any}
use Rattle.tree_model.specs.declared.rows.Update.{Update}
use Rattle.tree_model.specs.declared.keys.Key.{Key}
use Rattle.tree_model.specs.declared.keys.Key.TheVariants.{Entry, Node, Shape}
use Rattle.tree_model.specs.Rows.{Rows, IsTree}
use Rattle.tree_model.specs.Updates.{Fits, apply}
use Rattle.tree_model.specs.Tests.{applies}
use Rattle.tree_model.specs.Keys.{keys_of, meets}
use Rattle.tree_model.specs.Weights.{bytes_at}

-- t is a tree, and u applies to it
abbrev pub Applies : Rows → Update → Type 0
Applies t u = IsTree t × Fits t u

abbrev pub Meet : Update → Update → Type 0
Meet u v = meets u v ≡ true

-- the test of an update passes exactly where it applies
abbrev pub TestTells : Type 0
TestTells = (t : Rows) (u : Update) → IsTree t → IsTrue (applies t u) ↔ Fits t u

-- an update that applies makes a tree of a tree
abbrev pub KeepsTrees : Type 0
KeepsTrees = (t : Rows) (u : Update) → Applies t u → IsTree (apply t u)

-- updates that don't meet may change places: where u and then v apply, v and then u apply and make the same tree. So
-- making `/a/f` and making `/a/g` may, and making `/a/f` and removing `/a/f` may not
abbrev pub UpdatesSwap : Type 0
UpdatesSwap = (t : Rows) (u v : Update) → (Meet u v → ⊥) → Applies t u → Applies (apply t u) v
    → Applies t v × Applies (apply t v) u × (apply (apply t u) v ≡ apply (apply t v) u)

-- meeting has no direction
abbrev pub MeetingIsMutual : Type 0
MeetingIsMutual = (u v : Update) → meets u v ≡ meets v u

abbrev pub is_changed_node : ℕ → Key → Bool
is_changed_node x (Entry dir name changed) = false
is_changed_node x (Node id changed) = id == x && changed
is_changed_node x Shape = false

-- whether an update changes the row x as such, and not only an entry that names it
abbrev pub changes_node : ℕ → Update → Bool
changes_node x u = list_any (is_changed_node x) (keys_of u)

-- an update that doesn't meet one that changes a file leaves the file's bytes as they are
abbrev pub OthersLeaveBytes : Type 0
OthersLeaveBytes = (t : Rows) (u v : Update) (x : ℕ) → (Meet v u → ⊥) → changes_node x u ≡ true → bytes_at (apply t v) x ≡ bytes_at t x
