-- What a key is of, and whether it is told as changed.
use Rattle.std.specs.Prelude.{Bool, true, ◌||◌}
use Rattle.tree_model.specs.declared.keys.Key.{Key}
use Rattle.tree_model.specs.declared.keys.Key.TheVariants as keys
use Rattle.cross_dep.specs.declared.places.Place.{Place}
use Rattle.cross_dep.specs.declared.places.Place.TheVariants as places

-- what a key is of, whether it is changed or not: the changed node 7 and the needed node 7 are both of the node 7
abbrev pub place_of : Key → Place
place_of (keys.Entry dir name changed) = places.Entry dir name
place_of (keys.Node id changed) = places.Node id
place_of keys.Shape = places.Shape

-- whether a key is told as changed, which the shape always is
abbrev pub is_changed : Key → Bool
is_changed (keys.Entry dir name changed) = changed
is_changed (keys.Node id changed) = changed
is_changed keys.Shape = true

-- the key told as changed where it was, or where this is so: the needed node 7 with true is the changed node 7
abbrev pub with_changed : Key → Bool → Key
with_changed (keys.Entry dir name changed) more = keys.Entry dir name (changed || more)
with_changed (keys.Node id changed) more = keys.Node id (changed || more)
with_changed keys.Shape more = keys.Shape
