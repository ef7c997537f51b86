-- The order in which the marks of a stream are held.
use Rattle.std.specs.Prelude.{◌≡◌, ℕ, ◌<◌, ◌≤◌, List, length, slice_index_or}
use Rattle.std.specs.declared.cmp.Ordering.{Ordering}
use Rattle.std.specs.declared.cmp.Ordering.TheVariants.{Less, Equal}
use Rattle.tree_model.specs.declared.keys.Key.{Key}
use Rattle.cross_dep.specs.declared.places.Place.{Place}
use Rattle.cross_dep.specs.contracts.places.PlaceOrd.TheImpl as place_ord
use Rattle.cross_dep.specs.Marked.{place_of}

-- the order of what keys are of: the entries before the nodes, and these before the shape of the tree; the entries of a
-- directory before those of one with a greater serial, and by their names; nodes by their serials
abbrev pub place_cmp : Place → Place → Ordering
place_cmp = (place_ord.ghosts).cmp

-- the items rise by what they have: by themselves [1, 4, 9] rise, and [1, 4, 4] don't
abbrev pub RisesBy : {X P : Type 0} → (P → P → Ordering) → (X → P) → List X → Type 0
RisesBy {X} cmp place xs = (i j : ℕ) (d : X) → i < j → j < length xs → cmp (place (slice_index_or xs i d)) (place (slice_index_or xs j d)) ≡ Less

-- what an item has stands at a place of a list: 4 stands at place 1 of [1, 4, 9]
pub record StandsAt {X P : Type 0} (cmp : P → P → Ordering) (place : X → P) (xs : List X) (x : X) (at : ℕ) : Type 0 where
  pub inside : at < length xs
  pub same : (d : X) → cmp (place (slice_index_or xs at d)) (place x) ≡ Equal

-- what an item has would go before a place, and nothing that stands in the list is the same: 5 would go before place 2 of
-- [1, 4, 9]
pub record GoesAt {X P : Type 0} (cmp : P → P → Ordering) (place : X → P) (xs : List X) (x : X) (at : ℕ) : Type 0 where
  pub inside : at ≤ length xs
  pub lower : (i : ℕ) (d : X) → i < at → cmp (place (slice_index_or xs i d)) (place x) ≡ Less
  pub higher : (i : ℕ) (d : X) → at ≤ i → i < length xs → cmp (place x) (place (slice_index_or xs i d)) ≡ Less

-- the keys rise by what they are of: an entry, then the node 7 and then the node 8 do
abbrev pub Rises : List Key → Type 0
Rises keys = RisesBy place_cmp place_of keys

-- what a key is of stands at a place of the keys
abbrev pub IsAt : List Key → Key → ℕ → Type 0
IsAt keys key at = StandsAt place_cmp place_of keys key at

-- what a key is of would go before a place of the keys, none of which is of the same
abbrev pub IsGapFor : List Key → Key → ℕ → Type 0
IsGapFor keys key at = GoesAt place_cmp place_of keys key at
