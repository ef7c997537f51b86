-- The picture of a tree: its rows in preorder, the entries of a directory in byte order of their names.
use Rattle.std.specs.Prelude.{ℕ, zero, suc, ◌+◌, cond, nat_lt, List, [], ◌∷◌, ◌++◌, length, map}
use Rattle.std.specs.List.{flat_map}
use Rattle.std.specs.declared.option.Option.{Option}
use Rattle.std.specs.declared.option.Option.TheVariants.{None, Some}
use Rattle.std.specs.FinMap.{get, len}
use Rattle.tree_model.specs.declared.rows.Body.{Body}
use Rattle.tree_model.specs.declared.rows.Body.TheVariants.{Dir, File}
use Rattle.tree_model.specs.declared.rows.Row.{Row}
use Rattle.tree_model.specs.declared.picturing.Item.{Item}
use Rattle.tree_model.specs.declared.picturing.ItemKind.{ItemKind}
use Rattle.tree_model.specs.declared.picturing.ItemKind.TheVariants as shown
use Rattle.tree_model.specs.Rows.{Rows}
use Rattle.tree_model.specs.Entries.{Index, children, entries_of}

-- what an item shows of a body: of a directory how many entries it has
abbrev pub item_kind : ℕ → Body → ItemKind
item_kind count (Dir changes) = shown.Dir count changes
item_kind count (File bytes) = shown.File bytes

-- the item of the row r with the serial x
abbrev pub item : Rows → ℕ → ℕ → Row → Item
item t depth x r = record { depth = depth; name = r.name; kind = item_kind (length (children t x)) r.body }

-- the same where there may be no row
abbrev pub head : Rows → ℕ → ℕ → Option Row → List Item
head t depth x None = []
head t depth x (Some r) = item t depth x r ∷ []

-- the row x and those below it, in preorder, at most that many levels down: of `/a`, `/a/f` and `/b` from the root the
-- root at depth 0, `a` at 1, `f` at 2 and `b` at 1
abbrev pub items : ℕ → Rows → ℕ → ℕ → List Item
items zero t depth x = head t depth x (get t x)
items (suc levels) t depth x = head t depth x (get t x) ++ flat_map (λ e. items levels t (depth + 1) e.1) (children t x)

-- all of a tree: no row is as many levels down as there are rows
abbrev pub picture : Rows → List Item
picture t = items (len t) t 0 0

-- a row with its entries
abbrev pub with_entries : Index → Option Row → Option (Row × Index)
with_entries i None = None
with_entries i (Some r) = Some (r, i)

-- the row x with its entries
abbrev pub node_of : Rows → ℕ → Option (Row × Index)
node_of t x = with_entries (entries_of t x) (get t x)

-- what is still to be shown right below x, by depth and serial, where x isn't as deep as that already
abbrev pub below : ℕ → Rows → ℕ → ℕ → List (ℕ × ℕ)
below levels t depth x = cond (nat_lt depth levels) (map (λ e. (depth + 1, e.1)) (children t x)) []
