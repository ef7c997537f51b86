-- What the memory holds: the marks of each stream with the places for more.
use Rattle.std.specs.Prelude.{ℕ, Bool, ◌≤◌, List, [], map, slice_index_or}
use Rattle.std.specs.List.{list_any}
use Rattle.tree_model.specs.declared.keys.Key.{Key}
use Rattle.tree_model.specs.Keys.{clash}
use Rattle.cross_dep.specs.Kept.{Held}
use Rattle.cross_dep.specs.Books.{Book}

-- the marks of each stream, without the memory that they lie in: from two streams with the marks [a] and [], [[a], []]
abbrev pub keys_in : List Held → List (List Key)
keys_in marks = map (λ held. held.keys) marks

-- for how many marks each stream has places
abbrev pub places_in : List Held → List ℕ
places_in marks = map (λ held. held.places) marks

-- what is held, as a contract sees it
abbrev pub book_in : List Held → Book
book_in marks = record { marks = keys_in marks; places = places_in marks }

-- no marks, and no places for any
abbrev pub none_held : Held
none_held = record { keys = []; places = 0 }

-- what is held for one stream of several, and nothing past the last: of [a, b] stream 1 has b, and stream 2 has no marks
abbrev pub held_at : List Held → ℕ → Held
held_at marks stream = slice_index_or marks stream none_held

-- no stream has fewer places than before: where stream 1 had 6 of them, it has 6 or more
abbrev pub NoneFell : List Held → List Held → Type 0
NoneFell old new = (stream : ℕ) → (held_at old stream).places ≤ (held_at new stream).places

-- whether one of the marks clashes with one of the keys
abbrev pub any_clashes : List Key → List Key → Bool
any_clashes marks keys = list_any (λ key. list_any (clash key) marks) keys
