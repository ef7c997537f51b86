-- The records that streams have logged and not sealed, with the room for calls to come.
use Rattle.std.specs.Prelude.{◌≡◌, ◌≢◌, ℕ, List, [], ◌∷◌, ◌++◌}
use Rattle.ccfs_base.specs.declared.records.Rec.{Rec}
use Rattle.ccfs_base.specs.Rooms.{IsUsed}

-- A call that logs a record for a stream.
pub record Call : Type 0 where
  pub stream : ℕ
  pub rec : Rec

-- The log of each stream, the first record first, and the calls that room was made for.
pub record Logs : Type 0 where
  pub log : ℕ → List Rec
  pub room : List Call

-- no records, and no room
abbrev pub no_logs : Logs
no_logs = record { log = λ stream. []; room = [] }

-- The log of a stream has the record of a call more, and no other log changed.
pub record IsLogged (old : ℕ → List Rec) (call : Call) (new : ℕ → List Rec) : Type 0 where
  pub own : new call.stream ≡ old call.stream ++ call.rec ∷ []
  pub others : (stream : ℕ) → stream ≢ call.stream → new stream ≡ old stream

-- The log of a stream is empty, and no other log changed.
pub record IsTaken (old : ℕ → List Rec) (taken : ℕ) (new : ℕ → List Rec) : Type 0 where
  pub own : new taken ≡ []
  pub others : (stream : ℕ) → stream ≢ taken → new stream ≡ old stream

-- What a call left that was answered Ok.
pub record IsCalled (old : Logs) (call : Call) (new : Logs) : Type 0 where
  pub log : IsLogged old.log call new.log
  pub room : IsUsed call old.room new.room

-- the same logs and the same room
abbrev pub AreSame : Logs → Logs → Type 0
AreSame old new = ((stream : ℕ) → new.log stream ≡ old.log stream) × (new.room ≡ old.room)
