-- The text of a tree.
use Rattle.std.specs.Prelude.{ℕ, zero, suc, List, [], ◌∷◌, ◌++◌, length, take, drop, codes}
use Rattle.ccfs_base.specs.Names.{path_text}
use Rattle.script_text.specs.Data.{data_text}
use Rattle.script_text.specs.Texts.{line, labeled}
use Rattle.tree_model.specs.declared.picturing.Item.{Item}
use Rattle.tree_model.specs.declared.picturing.ItemKind.{ItemKind}
use Rattle.tree_model.specs.declared.picturing.ItemKind.TheVariants.{Dir, File}

-- the text of the path that these names lead, from the root's on: `/` for the root's alone, `/a/f` for ``, `a` and `f`
abbrev pub item_path : List (List ℕ) → List ℕ
item_path names = path_text (drop 1 names)

-- what stands at the end of these names: `dir /a entries 1 changes 2`, `file /a/f length 0 data -`
abbrev pub item_text : List (List ℕ) → ItemKind → List ℕ
item_text names (Dir entries changes) = codes "dir " ++ item_path names ++ labeled (codes " entries ") entries ++ labeled (codes " changes ") changes
item_text names (File bytes) = codes "file " ++ item_path names ++ labeled (codes " length ") (length bytes) ++ codes " data " ++ data_text bytes

-- the names down to an item: those of the item before it that it stands below, and its own
abbrev pub names_down : List (List ℕ) → Item → List (List ℕ)
names_down before item = take item.depth before ++ item.name ∷ []

-- a line for each item, in their order; before are the names down to the item before the first
abbrev pub item_lines : List (List ℕ) → List Item → List ℕ
item_lines before [] = []
item_lines before (item ∷ items) = line (item_text (names_down before item) item.kind) ++ item_lines (names_down before item) items

-- the line of the item at a place, counted from 0; before are the names down to the item before the first
abbrev pub line_behind : List (List ℕ) → List Item → ℕ → List ℕ
line_behind before [] place = []
line_behind before (item ∷ items) zero = line (item_text (names_down before item) item.kind)
line_behind before (item ∷ items) (suc place) = line_behind (names_down before item) items place

-- the line of the item at a place of a picture: at 0 that of the root
abbrev pub item_line : List Item → ℕ → List ℕ
item_line picture place = line_behind [] picture place

-- the text of a tree: a line with the number of the last batch, and then a line for each item of its picture
abbrev pub tree_lines : ℕ → List Item → List ℕ
tree_lines number picture = line (labeled (codes "batches ") number) ++ item_lines [] picture
