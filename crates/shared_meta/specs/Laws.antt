-- The laws of logs of streams over one base.
use Rattle.std.specs.Prelude.{◌≡◌, ℕ, ◌<◌, true, List, [], ◌∷◌, ◌++◌}
use Rattle.std.specs.List.{All}
use Rattle.std.specs.List.Sorted.{IsPermutation}
use Rattle.ccfs_base.specs.declared.records.Rec.{Rec}
use Rattle.ccfs_base.specs.Records.{recorded, AreFree}
use Rattle.ccfs_base.specs.Logs.{Call}
use Rattle.record_logs.specs.Kept.{streams}
use Rattle.range_log.specs.Ranges.{is_range}
use Rattle.delta_log.specs.Laws.{IsRangeFirst, deltas_of}
use Rattle.shared_meta.specs.Area.{Area, all_streams, standing, standing_in, IsShared, MayLog, IsLoggedIn, IsSealed}

-- the area stands as it does in whatever order the logs of the streams are put on the base
abbrev pub AnyOrder : Type 0
AnyOrder = (a : Area) (order : List ℕ) → IsShared a → IsPermutation all_streams order → standing_in order a ≡ standing a

-- a call that may be made puts its record on the area as it stands, and the logs stay apart
abbrev pub CallsAreRecorded : Type 0
CallsAreRecorded = (old new : Area) (call : Call) → IsShared old → MayLog old call → IsLoggedIn old call new
    → IsShared new × (standing new ≡ recorded (standing old) call.rec)

-- a seal leaves the area as it stands
abbrev pub SealsKeep : Type 0
SealsKeep = (old new : Area) (stream : ℕ) → stream < streams → IsShared old → IsSealed old stream new → IsShared new × (standing new ≡ standing old)

-- what a stream has logged, in the order of its calls, stays such that its ranges may go first
abbrev pub RangeFirstGrows : Type 0
RangeFirstGrows = (log : List Rec) (rec : Rec) → IsRangeFirst log → (is_range rec ≡ true → All (AreFree rec) (deltas_of log)) → IsRangeFirst (log ++ rec ∷ [])
