-- The laws of records and of logs of records.
use Rattle.std.specs.Prelude.{◌≡◌, ℕ, true, not, List, [], ◌∷◌, ◌++◌, length, filter}
use Rattle.std.specs.List.{All}
use Rattle.ccfs_base.specs.declared.records.Rec.{Rec}
use Rattle.ccfs_base.specs.Places.{IsInside}
use Rattle.ccfs_base.specs.Records.{acts_at, recorded, all_recorded, AreInside, AreFree}
use Rattle.delta_log.specs.Deltas.{is_delta}

-- a record keeps the number of bytes
abbrev pub LengthStays : Type 0
LengthStays = (bytes : List ℕ) (rec : Rec) → length (recorded bytes rec) ≡ length bytes

-- two records that don't disturb each other leave the same in either order
abbrev pub RecordsCommute : Type 0
RecordsCommute = (bytes : List ℕ) (rec other : Rec) → IsInside (length bytes) (acts_at rec) → IsInside (length bytes) (acts_at other)
    → AreFree rec other → recorded (recorded bytes rec) other ≡ recorded (recorded bytes other) rec

-- no record of the one log disturbs one of the other
abbrev pub AllFree : List Rec → List Rec → Type 0
AllFree log other = All (λ rec. All (AreFree rec) other) log

-- two such logs leave the same in either order
abbrev pub LogsCommute : Type 0
LogsCommute = (bytes : List ℕ) (log other : List Rec) → AreInside (length bytes) log → AreInside (length bytes) other
    → AllFree log other → all_recorded (all_recorded bytes log) other ≡ all_recorded (all_recorded bytes other) log

-- two logs do the same to all so many bytes
abbrev pub AreAlike : ℕ → List Rec → List Rec → Type 0
AreAlike size log other = (bytes : List ℕ) → length bytes ≡ size → all_recorded bytes log ≡ all_recorded bytes other

-- the raises and flips of a log, and its ranges
abbrev pub deltas_of : List Rec → List Rec
deltas_of log = filter is_delta log

abbrev pub ranges_of : List Rec → List Rec
ranges_of log = filter (λ rec. not (is_delta rec)) log

-- no range of the log disturbs a raise or a flip before it. (A raise may follow a range over its counter.)
abbrev pub IsRangeFirst : List Rec → Type 0
IsRangeFirst [] = Unit {0}
IsRangeFirst (rec ∷ rest) = (is_delta rec ≡ true → All (AreFree rec) (ranges_of rest)) × IsRangeFirst rest

-- the ranges and then the raises and flips do what the log does
abbrev pub SortedIsAlike : Type 0
SortedIsAlike = (size : ℕ) (log : List Rec) → AreInside size log → IsRangeFirst log → AreAlike size log (ranges_of log ++ deltas_of log)

-- ranges put on twice leave what they leave once
abbrev pub ReplayedTwice : Type 0
ReplayedTwice = (bytes : List ℕ) (log : List Rec) → AreInside (length bytes) log → deltas_of log ≡ []
    → all_recorded (all_recorded bytes log) log ≡ all_recorded bytes log
