-- Records that were logged one after another.
use Rattle.std.specs.Prelude.{◌≡◌, ◌≢◌, ℕ, List, [], ◌++◌, map}
use Rattle.ccfs_base.specs.declared.records.Rec.{Rec}
use Rattle.ccfs_base.specs.Logs.{Call}
use Rattle.record_logs.specs.Kept.{call_by}
use Rattle.delta_log.specs.Laws.{ranges_of, deltas_of}
use Rattle.shared_meta.specs.Area.{Area}

-- the calls that log records for a stream, in their order
abbrev pub calls_of : ℕ → List Rec → List Call
calls_of s recs = map (λ rec. call_by s rec) recs

-- A stream logged records: its ranges stand behind its ranges, and its raises and flips behind those. Its place is gone, and the room is
-- empty.
pub record AreLogged (old : Area) (s : ℕ) (recs : List Rec) (new : Area) : Type 0 where
  pub base : new.base ≡ old.base
  pub ranges : new.ranges s ≡ old.ranges s ++ ranges_of recs
  pub deltas : new.deltas s ≡ old.deltas s ++ deltas_of recs
  pub other_ranges : (r : ℕ) → r ≢ s → new.ranges r ≡ old.ranges r
  pub other_deltas : (r : ℕ) → r ≢ s → new.deltas r ≡ old.deltas r
  pub other_places : (r : ℕ) → r ≢ s → new.places r ≡ old.places r
  pub room : new.room ≡ []
