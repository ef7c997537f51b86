-- The logs of streams with the room, as a contract sees them.
use Rattle.std.specs.Prelude.{ℕ, List, [], slice_index_or}
use Rattle.ccfs_base.specs.declared.records.Rec.{Rec}
use Rattle.ccfs_base.specs.Logs.{Call, Logs}

-- The log of each stream, that of stream 0 first, and the calls that room was made for.
pub record LogLists : Type 0 where
  pub logs : List (List Rec)
  pub room : List Call

-- the log of a stream, and none of a stream past the last: of the logs [[a], [b, c]] stream 1 has b and c, and stream 2 none
abbrev pub log_of : LogLists → ℕ → List Rec
log_of kept stream = slice_index_or kept.logs stream []

-- the logs by streams, with the room
abbrev pub logs_of : LogLists → Logs
logs_of kept = record { log = log_of kept; room = kept.room }

-- how many streams there are, from 0 on
abbrev pub streams : ℕ
streams = 64

-- the call that logs a record for a stream
abbrev pub call_by : ℕ → Rec → Call
call_by stream rec = record { stream = stream; rec = rec }
