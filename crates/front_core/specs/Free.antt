-- The inodes that rows have or that unsealed updates gave up.
-- The comments share an example: of an image of 32 inodes, rows have 0, 2 and 3, and stream 1 gave up 5 and has not sealed it.
use Rattle.std.specs.Prelude.{◌≡◌, ◌≢◌, ◌⊎◌, ℕ, ◌<◌, ◌≤◌, true, false, not, Option, Some, MatchOption, List, [], reverse, filter, map, slice_index_or, Vec, vec_items, vec_capacity}
use Rattle.stream_cuts.specs.Streams.{of_stream}
use Rattle.tree_model.specs.declared.rows.Update.{Update}
use Rattle.tree_model.specs.declared.rows.Update.TheVariants.{Make, Write, Resize, Remove, Move, Release}
use Rattle.tree_model.specs.Rows.{Rows}
use Rattle.tree_cuts.specs.Calls.{Charged}
use Rattle.free_maps.specs.Maps.{is_set}
use Rattle.image_model.specs.Carrying.{inode_in}
use Rattle.cross_dep.specs.Books.{has_bit}
use Rattle.front_laws.specs.Inodes.{given, has, IsFree}
use Rattle.front_laws.specs.Owned.{AreOwned}

-- How many inodes there are, the bitmap of those that are taken, the inodes that each stream gave up and has not sealed, and how many its
-- memory has places for.
pub record Taken : Type 0 where
  pub count : ℕ
  pub bits : List ℕ
  pub given : List (List ℕ)
  pub places : List ℕ

-- the list of a stream, and none past the last: of [[], [5]] that of stream 1 is [5], and that of stream 2 is []
abbrev pub list_at : List (List ℕ) → ℕ → List ℕ
list_at lists s = slice_index_or lists s []

-- the inodes that a stream gave up: 5 is stream 1's
abbrev pub given_at : Taken → ℕ → List ℕ
given_at taken s = list_at taken.given s

-- An inode from 2 on is marked exactly where it isn't free: a row has it, or an unsealed update gave it up. Each stream's list has those
-- that its unsealed updates gave up: they are from 2 on below the count, and no two streams gave up the same. In the example 2, 3 and 5
-- are marked.
pub record AreTaken (count : ℕ) (inodes : List ℕ) (t : Rows) (unsealed : List (ℕ × Charged)) (taken : Taken) : Type 0 where
  pub counted : taken.count ≡ count
  pub clear : (i : ℕ) → 2 ≤ i → i < count → is_set taken.bits i ≡ false → IsFree inodes t unsealed i
  pub free : (i : ℕ) → 2 ≤ i → i < count → IsFree inodes t unsealed i → is_set taken.bits i ≡ false
  pub own : (s : ℕ) → s < 64 → given_at taken s ≡ given inodes (reverse (of_stream s unsealed))
  pub inside : (i : ℕ) → has i (given inodes unsealed) ≡ true → (2 ≤ i) × (i < count)
  pub apart : (s r i : ℕ) → s ≢ r → has i (given inodes (of_stream s unsealed)) ≡ true → has i (given inodes (of_stream r unsealed)) ≡ true → ⊥

-- the updates of the streams that aren't named by a bit of a number: of (1, u), (2, v) with 4 it is (1, u)
abbrev pub but_of : ℕ → List (ℕ × Charged) → List (ℕ × Charged)
but_of bits unsealed = filter (λ e. not (has_bit bits e.0)) unsealed

-- One inode from 2 on below the count is free once the streams are sealed that are named by a bit: in the example 4 is, whether or not
-- stream 1 is sealed.
pub record IsOneFree (bits : ℕ) (taken : Taken) : Type 0 where
  pub count : ℕ
  pub inodes : List ℕ
  pub t : Rows
  pub unsealed : List (ℕ × Charged)
  pub owned : AreOwned inodes t unsealed
  pub taken_ : AreTaken count inodes t unsealed taken
  pub one : ((i : ℕ) → 2 ≤ i → i < count → IsFree inodes t (but_of bits unsealed) i → ⊥) → ⊥

-- a row that an update makes has the last inode of the list, which is free from 2 on below the count
abbrev pub MakesTheLast : ℕ → List ℕ → Rows → List (ℕ × Charged) → Update → Type 0
MakesTheLast count inodes t unsealed (Make dir name id is_dir) = (2 ≤ inode_in inodes id) × (inode_in inodes id < count) × IsFree inodes t unsealed (inode_in inodes id)
MakesTheLast count inodes t unsealed (Write id off bytes) = Unit {0}
MakesTheLast count inodes t unsealed (Resize id len) = Unit {0}
MakesTheLast count inodes t unsealed (Remove dir name id stays) = Unit {0}
MakesTheLast count inodes t unsealed (Move dir name to_dir to_name id is_dir replaced stays) = Unit {0}
MakesTheLast count inodes t unsealed (Release id) = Unit {0}

-- ---- what the memory holds

-- the lists of the streams, without the memory that they lie in
abbrev pub lists_in : {Z : Type 0} → List (Vec ℕ Z) → List (List ℕ)
lists_in given = map (λ list. vec_items list) given

-- how many inodes the memory of each stream has places for
abbrev pub places_in : {Z : Type 0} → List (Vec ℕ Z) → List ℕ
places_in given = map (λ list. vec_capacity list) given

-- all inodes of the lists are below a number: those of [[], [5]] are below 32
abbrev pub AreBelow : ℕ → List (List ℕ) → Type 0
AreBelow count lists = (s i : ℕ) → has i (list_at lists s) ≡ true → i < count

-- ---- lowest numbers

-- It is the lowest number with a property, or None where no number has it: of those from 2 on it is 2.
abbrev pub IsLowestOf : (ℕ → Type 0) → Option ℕ → Type 0
IsLowestOf P found = MatchOption found ((i : ℕ) → P i → ⊥) (λ low. P low × ((i : ℕ) → P i → low ≤ i))

-- a number is this one, if there is one, or in the list: 3 and 5 are for Some 3 and [5]
abbrev pub IsThisOrIn : Option ℕ → List ℕ → ℕ → Type 0
IsThisOrIn first list i = (first ≡ Some i) ⊎ (has i list ≡ true)
