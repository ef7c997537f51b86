-- The book of the unsealed updates of streams, as a contract sees it.
use Rattle.std.specs.Prelude.{◌≡◌, ◌≢◌, ℕ, ◌+◌, ◌*◌, ◌<◌, ◌≤◌, Bool, not, ◌&&◌, ◌==◌, List, [], filter, length, slice_index_or}
use Rattle.std.specs.Int.{bit_at}
use Rattle.std.specs.List.{list_any}
use Rattle.tree_model.specs.declared.rows.Update.{Update}
use Rattle.tree_model.specs.declared.keys.Key.{Key}
use Rattle.tree_model.specs.Keys.{clash, touches, meets}

-- a stream and an update of it: `(1, Release 7)` is that stream 1 drops the file 7
abbrev pub Call : Type 0
Call = ℕ × Update

-- The marks of each stream, those of stream 0 first, and how many marks its memory has places for. A mark is a key that an
-- update of the stream has. It is told as changed where one of them changes it: where stream 1 has made `/a` with the serial 7 and `/a/f`
-- with the serial 8, its marks are the two changed entries, the changed nodes 7 and 8, and the needed node 0 of the root.
pub record Book : Type 0 where
  pub marks : List (List Key)
  pub places : List ℕ

-- the marks of a stream, and none of a stream past the last: of the marks [[a], [b, c]] stream 1 has b and c
abbrev pub marks_of : Book → ℕ → List Key
marks_of book stream = slice_index_or book.marks stream []

-- A stream has room for so many updates: beside its marks its memory has places for the six keys that each of them may have.
-- With 10 marks and 22 places there is room for two updates.
abbrev pub HasRoom : Book → ℕ → ℕ → Type 0
HasRoom book stream updates = length (marks_of book stream) + 6 * updates ≤ slice_index_or book.places stream 0

-- no stream has room for fewer updates than before
abbrev pub IsRoomKept : Book → Book → Type 0
IsRoomKept old new = (stream updates : ℕ) → HasRoom old stream updates → HasRoom new stream updates

-- A stream has used the room for one update: of the room for two there is left that for one. The others have theirs.
pub record IsRoomUsed (old : Book) (stream : ℕ) (new : Book) : Type 0 where
  pub own : (updates : ℕ) → HasRoom old stream (updates + 1) → HasRoom new stream updates
  pub others : (other updates : ℕ) → other ≢ stream → HasRoom old other updates → HasRoom new other updates

-- whether one of a stream's unsealed updates passes a test: of [(1, u), (2, v)] one of stream 1 does where u does
abbrev pub one_of : ℕ → (Update → Bool) → List Call → Bool
one_of stream test unsealed = list_any (λ call. call.0 == stream && test call.1) unsealed

-- The book is that of the unsealed updates of all streams: a mark of a stream clashes with a key exactly where one of the
-- stream's updates touches it. So the book of [(1, u)], where u makes `/a` with the serial 7, has just in stream 1 a mark that
-- clashes with the needed node 7, and none that clashes with the needed node 0.
pub record IsBookOf (book : Book) (unsealed : List Call) : Type 0 where
  pub tells : (stream : ℕ) (key : Key) → stream < 64 → list_any (clash key) (marks_of book stream) ≡ one_of stream (λ u. touches u key) unsealed

-- the unsealed updates of the other streams: [(1, u), (2, v), (1, w)] without stream 1 is [(2, v)]
abbrev pub without : ℕ → List Call → List Call
without stream unsealed = filter (λ call. not (call.0 == stream)) unsealed

-- whether bit s of a number is set: 5 has the bits 0 and 2
abbrev pub has_bit : ℕ → ℕ → Bool
has_bit bits s = bit_at bits s == 1

-- whether s is another stream with an unsealed update that meets this one: for stream 2, of [(1, u), (2, v)] stream 1 is where
-- u meets the update, and stream 2 isn't, whatever v is
abbrev pub is_met : ℕ → Update → List Call → ℕ → Bool
is_met stream update unsealed s = not (s == stream) && one_of s (λ u. meets update u) unsealed
