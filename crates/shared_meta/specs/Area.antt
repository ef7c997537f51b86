-- A metadata area with the logs of its streams.
use Rattle.std.specs.Prelude.{◌≡◌, ◌≢◌, ℕ, ◌<◌, Bool, true, false, List, [], ◌∷◌, ◌++◌, length, slice_index_or}
use Rattle.std.specs.List.{All, range_with_len}
use Rattle.ccfs_base.specs.declared.records.Rec.{Rec}
use Rattle.ccfs_base.specs.Places.{IsInside}
use Rattle.ccfs_base.specs.Records.{acts_at, all_recorded, AreInside, AreFree}
use Rattle.ccfs_base.specs.Rooms.{IsUsed}
use Rattle.ccfs_base.specs.Logs.{Call, IsLogged, IsTaken}
use Rattle.record_logs.specs.Kept.{streams}
use Rattle.range_log.specs.Ranges.{is_range}
use Rattle.delta_log.specs.Deltas.{is_delta}
use Rattle.delta_log.specs.Laws.{AllFree}

-- A base, and what each stream has logged: its ranges in their order, and its raises and flips in their order. `places` tells of
-- which streams the log can be handed out without memory.
pub record Area : Type 0 where
  pub base : List ℕ
  pub ranges : ℕ → List Rec
  pub deltas : ℕ → List Rec
  pub places : ℕ → Bool
  pub room : List Call

-- The same with a list in place of each function of the streams, stream 0 first. The streams past the last have nothing.
pub record AreaLists : Type 0 where
  pub base : List ℕ
  pub ranges : List (List Rec)
  pub deltas : List (List Rec)
  pub places : List Bool
  pub room : List Call

-- the area that is kept so: with the ranges [[a], [b, c]] stream 1 has put b and c, and stream 2 nothing
abbrev pub area : AreaLists → Area
area kept = record {
  base = kept.base;
  ranges = λ stream. slice_index_or kept.ranges stream [];
  deltas = λ stream. slice_index_or kept.deltas stream [];
  places = λ stream. slice_index_or kept.places stream false;
  room = kept.room;
}

-- these bytes, and no logs
abbrev pub area_of : List ℕ → Area
area_of base = record { base = base; ranges = λ stream. []; deltas = λ stream. []; places = λ stream. false; room = [] }

-- what a stream has logged: the ranges, and behind them the raises and flips. It does to bytes what the stream's records do in
-- the order in which they were logged
abbrev pub log_of : Area → ℕ → List Rec
log_of a stream = a.ranges stream ++ a.deltas stream

-- bytes with the logs of streams put on them, in this order: with the order [2, 1] that of stream 2 goes first
unfoldable pub put_on : (ℕ → List Rec) → List ℕ → List ℕ → List ℕ
put_on log [] bytes = bytes
put_on log (stream ∷ more) bytes = put_on log more (all_recorded bytes (log stream))

-- the area with the logs put on the base in an order of the streams
abbrev pub standing_in : List ℕ → Area → List ℕ
standing_in order a = put_on (log_of a) order a.base

-- all streams, in their order: 0, 1, 2 and so on to 63
unfoldable pub all_streams : List ℕ
all_streams = range_with_len 0 streams

-- the area as it stands
abbrev pub standing : Area → List ℕ
standing a = standing_in all_streams a

-- A call may be made: its record lies in the area, it doesn't disturb the records of other streams, and a range doesn't disturb
-- the raises and flips of its own.
pub record MayLog (a : Area) (call : Call) : Type 0 where
  pub stream : call.stream < streams
  pub inside : IsInside (length a.base) (acts_at call.rec)
  pub others : (stream : ℕ) → stream ≢ call.stream → All (AreFree call.rec) (log_of a stream)
  pub own : is_range call.rec ≡ true → All (AreFree call.rec) (a.deltas call.stream)

-- no log changed
abbrev pub AreKept : (ℕ → List Rec) → (ℕ → List Rec) → Type 0
AreKept old new = (stream : ℕ) → new stream ≡ old stream

-- the logs got the record of a call, or stayed
abbrev pub IsLoggedWhere : Bool → (ℕ → List Rec) → Call → (ℕ → List Rec) → Type 0
IsLoggedWhere true old call new = IsLogged old call new
IsLoggedWhere false old call new = AreKept old new

-- one stream has no place for its log, and for the others it is as before
pub record IsPlaceGone (old : ℕ → Bool) (stream : ℕ) (new : ℕ → Bool) : Type 0 where
  pub own : new stream ≡ false
  pub others : (other : ℕ) → other ≢ stream → new other ≡ old other

-- What a call left that was answered Ok.
pub record IsLoggedIn (old : Area) (call : Call) (new : Area) : Type 0 where
  pub base : new.base ≡ old.base
  pub ranges : IsLoggedWhere (is_range call.rec) old.ranges call new.ranges
  pub deltas : IsLoggedWhere (is_delta call.rec) old.deltas call new.deltas
  pub places : IsPlaceGone old.places call.stream new.places
  pub room : IsUsed call old.room new.room

-- The log of a stream is put on the base, and the stream has none. The room stays.
pub record IsSealed (old : Area) (stream : ℕ) (new : Area) : Type 0 where
  pub base : new.base ≡ all_recorded old.base (log_of old stream)
  pub ranges : IsTaken old.ranges stream new.ranges
  pub deltas : IsTaken old.deltas stream new.deltas
  pub places : IsPlaceGone old.places stream new.places
  pub room : new.room ≡ old.room

-- All is as before, but for the room.
pub record AreAsBefore (old new : Area) : Type 0 where
  pub base : new.base ≡ old.base
  pub ranges : AreKept old.ranges new.ranges
  pub deltas : AreKept old.deltas new.deltas
  pub places : (stream : ℕ) → new.places stream ≡ old.places stream

-- all is as before
abbrev pub AreSameAreas : Area → Area → Type 0
AreSameAreas old new = AreAsBefore old new × (new.room ≡ old.room)

-- The log of a stream has a place, and all else is as before.
pub record IsPlaced (old : Area) (stream : ℕ) (new : Area) : Type 0 where
  pub base : new.base ≡ old.base
  pub ranges : AreKept old.ranges new.ranges
  pub deltas : AreKept old.deltas new.deltas
  pub own : new.places stream ≡ true
  pub others : (other : ℕ) → other ≢ stream → new.places other ≡ old.places other
  pub room : new.room ≡ old.room

-- The logs lie in the area, and those of different streams don't disturb each other.
pub record IsShared (a : Area) : Type 0 where
  pub inside : (stream : ℕ) → AreInside (length a.base) (log_of a stream)
  pub free : (stream other : ℕ) → stream ≢ other → AllFree (log_of a stream) (log_of a other)
