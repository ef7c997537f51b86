-- The keys of an update, and which updates meet.
use Rattle.std.specs.Prelude.{ℕ, Bool, true, false, not, ◌&&◌, ◌||◌, ◌==◌, List, [], ◌∷◌, ◌++◌}
use Rattle.std.specs.List.{list_any}
use Rattle.std.specs.Cmp.Lexicographic.{pointwise}
use Rattle.std.specs.declared.option.Option.{Option}
use Rattle.std.specs.declared.option.Option.TheVariants.{None, Some}
use Rattle.tree_model.specs.declared.rows.Update.{Update}
use Rattle.tree_model.specs.declared.rows.Update.TheVariants.{Make, Write, Resize, Remove, Move, Release}
use Rattle.tree_model.specs.declared.keys.Key.{Key}
use Rattle.tree_model.specs.declared.keys.Key.TheVariants.{Entry, Node, Shape}

-- whether two keys are one that at least one of the two changes: two updates that need the directory 0 don't clash in it
abbrev pub clash : Key → Key → Bool
clash (Entry d n c) (Entry e m b) = d == e && (pointwise ◌==◌ n m && (c || b))
clash (Node x c) (Node y b) = x == y && (c || b)
clash Shape Shape = true
clash (Entry d n c) (Node y b) = false
clash (Entry d n c) Shape = false
clash (Node x c) (Entry e m b) = false
clash (Node x c) Shape = false
clash Shape (Entry e m b) = false
clash Shape (Node y b) = false

-- the key of the file that a move replaces
abbrev pub replaced_key : Option ℕ → List Key
replaced_key None = []
replaced_key (Some x) = Node x true ∷ []

-- the key of the shape of the tree, where a directory gets another parent
abbrev pub shape_key : Bool → List Key
shape_key true = Shape ∷ []
shape_key false = []

-- what an update changes and needs. Making `/a/f` with the serial 7 changes the entry `f` of `/a` and the node 7, and
-- needs the node of `/a`
abbrev pub keys_of : Update → List Key
keys_of (Make dir name id is_dir) = Entry dir name true ∷ Node id true ∷ Node dir false ∷ []
keys_of (Write id off bytes) = Node id true ∷ []
keys_of (Resize id len) = Node id true ∷ []
keys_of (Remove dir name id stays) = Entry dir name true ∷ Node id true ∷ Node dir false ∷ []
keys_of (Move dir name to_dir to_name id is_dir replaced stays) =
    Entry dir name true ∷ Entry to_dir to_name true ∷ Node dir false ∷ Node to_dir false ∷ replaced_key replaced ++ shape_key (is_dir && not (dir == to_dir))
keys_of (Release id) = Node id true ∷ []

-- whether one of the keys of u clashes with this one
abbrev pub touches : Update → Key → Bool
touches u k = list_any (clash k) (keys_of u)

-- two updates meet where they share a key that at least one of them changes: making `/a/f` and removing `/a` meet in the
-- node of `/a`, and making `/a/f` and `/a/g` don't meet
abbrev pub meets : Update → Update → Bool
meets u v = list_any (touches v) (keys_of u)
