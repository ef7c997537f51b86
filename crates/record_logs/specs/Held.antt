-- What the memory holds: a list of records for each stream, and the calls of the room, each with a list of its own.
use Rattle.std.specs.Prelude.{◌≡◌, ℕ, ◌+◌, ◌<◌, ◌≤◌, max, List, [], ◌∷◌, ◌++◌, map, length, slice_index_or, slice_set, Vec, vec_items, vec_capacity}
use Rattle.ccfs_base.specs.declared.records.Rec.{Rec}
use Rattle.ccfs_base.specs.Logs.{Call}
use Rattle.record_logs.specs.declared.logs.RoomCall.{RoomCall}
use Rattle.record_logs.specs.Kept.{LogLists, call_by}

-- the records of each stream, without the memory that they lie in
abbrev pub recs_of : {Z : Type 0} → List (Vec Rec Z) → List (List Rec)
recs_of logs = map (λ log. vec_items log) logs

-- how many records the memory of each stream has places for
abbrev pub places_of : {Z : Type 0} → List (Vec Rec Z) → List ℕ
places_of logs = map (λ log. vec_capacity log) logs

-- one list of several, and none past the last: of [[a], [b, c]] list 1 is [b, c], and list 2 is []
abbrev pub list_at : {A : Type 0} → List (List A) → ℕ → List A
list_at lists at = slice_index_or lists at []

-- the lists with one more record in one of them: [[a], [b]] with c in list 1 is [[a], [b, c]]
abbrev pub with_last : List (List Rec) → ℕ → Rec → List (List Rec)
with_last lists at rec = slice_set lists at (list_at lists at ++ rec ∷ [])

-- one number of several, and 0 past the last: of [4, 7] number 1 is 7, and number 2 is 0
abbrev pub number_at : List ℕ → ℕ → ℕ
number_at numbers at = slice_index_or numbers at 0

-- no number has become smaller: from [1, 2] to [1, 3] none has
abbrev pub NoneFell : List ℕ → List ℕ → Type 0
NoneFell old new = (at : ℕ) → number_at old at ≤ number_at new at

-- the calls of the room, without the memory that they have
abbrev pub calls_of : List RoomCall → List Call
calls_of room = map (λ call. call_by call.stream call.rec) room

-- what is held, as a contract sees it
abbrev pub kept_in : List (List Rec) → List RoomCall → LogLists
kept_in logs room = record { logs = logs; room = calls_of room }

-- A call of the room with so many calls before it needs no memory. Its own list is empty and has places for it and for the
-- calls before it. This list or its stream's log has, beside the log's records, places for them too. So whether the log is
-- handed out in between or not, the records that are there at the call have a list with a place more: the third call of a room
-- has a list with 3 places at least, and at least 5 where its stream's log has 2 records and no place for 3 more.
pub record IsServed (logs : List (List Rec)) (spaces : List ℕ) (before : ℕ) (call : RoomCall) : Type 0 where
  pub stream : call.stream < 64
  pub empty : vec_items call.place ≡ []
  pub own : before < vec_capacity call.place
  pub log : length (list_at logs call.stream) + before < max (number_at spaces call.stream) (vec_capacity call.place)

-- all calls of the room are served, where so many calls are before the first
abbrev pub AreServed : List (List Rec) → List ℕ → ℕ → List RoomCall → Type 0
AreServed logs spaces before [] = Unit {0}
AreServed logs spaces before (call ∷ rest) = IsServed logs spaces before call × AreServed logs spaces (before + 1) rest
