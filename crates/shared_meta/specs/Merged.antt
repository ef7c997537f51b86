-- Two logs with one room: which log each call of the room goes to, in the order of the calls.
use Rattle.std.specs.Prelude.{◌≡◌, ℕ, true, List, [], ◌∷◌, slice_index_or}
use Rattle.ccfs_base.specs.declared.records.Rec.{Rec}
use Rattle.ccfs_base.specs.Logs.{Call}
use Rattle.ccfs_base.specs.Rooms.{IsUsed}
use Rattle.range_log.specs.Ranges.{is_range}
use Rattle.delta_log.specs.Deltas.{is_delta}
use Rattle.shared_meta.specs.declared.logs.Kind.{Kind}
use Rattle.shared_meta.specs.declared.logs.Kind.TheVariants as kinds
use Rattle.shared_meta.specs.Area.{AreKept, IsLoggedWhere}

-- The ranges of each stream, its raises and flips, stream 0 first, and the calls that room was made for.
pub record Both : Type 0 where
  pub ranges : List (List Rec)
  pub deltas : List (List Rec)
  pub room : List Call

-- the list of a stream, and none past the last: of [[a], [b, c]] that of stream 1 is [b, c]
abbrev pub list_at : List (List Rec) → ℕ → List Rec
list_at lists stream = slice_index_or lists stream []

-- the calls of two rooms in one order: [Delta, Range, Delta] with the ranges [a] and the deltas [b, c] is [b, a, c]
abbrev pub merged : List Kind → List Call → List Call → List Call
merged [] ranges deltas = []
merged (kinds.Range ∷ order) [] deltas = []
merged (kinds.Range ∷ order) (call ∷ ranges) deltas = call ∷ merged order ranges deltas
merged (kinds.Delta ∷ order) ranges [] = []
merged (kinds.Delta ∷ order) ranges (call ∷ deltas) = call ∷ merged order ranges deltas

-- an order has each call of the two rooms once, each in the room of its kind
abbrev pub AreMerged : List Kind → List Call → List Call → Type 0
AreMerged [] ranges deltas = (ranges ≡ []) × (deltas ≡ [])
AreMerged (kinds.Range ∷ order) [] deltas = ⊥
AreMerged (kinds.Range ∷ order) (call ∷ ranges) deltas = (is_range call.rec ≡ true) × AreMerged order ranges deltas
AreMerged (kinds.Delta ∷ order) ranges [] = ⊥
AreMerged (kinds.Delta ∷ order) ranges (call ∷ deltas) = (is_delta call.rec ≡ true) × AreMerged order ranges deltas

-- What a call left of the logs that was answered Ok.
pub record IsCalledIn (old : Both) (call : Call) (new : Both) : Type 0 where
  pub ranges : IsLoggedWhere (is_range call.rec) (list_at old.ranges) call (list_at new.ranges)
  pub deltas : IsLoggedWhere (is_delta call.rec) (list_at old.deltas) call (list_at new.deltas)
  pub room : IsUsed call old.room new.room

-- The logs are as before, and the room may be another.
pub record AreLogsKept (old new : Both) : Type 0 where
  pub ranges : AreKept (list_at old.ranges) (list_at new.ranges)
  pub deltas : AreKept (list_at old.deltas) (list_at new.deltas)
