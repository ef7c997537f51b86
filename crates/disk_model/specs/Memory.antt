-- What callers see of a disk in memory. The trait's members of it are these words, too.
use Rattle.std.specs.Prelude.{◌≡◌, ◌⊎◌, ◌↔◌, ℕ, ◌+◌, ◌-◌, ◌^◌, min, List, length, Result, IsTrue, IsErr, OnOk, OnErr}
use Rattle.fault_counts.specs.Counts.{raised, Rose}
use Rattle.disk_model.specs.Bytes.{patched, Torn}
use Rattle.disk_model.specs.Moments.{Reaches}
use Rattle.disk_model.specs.HistoryView.{past_of, images_of, clock_of, left_of}
use Rattle.disk_model.specs.Pick.{IsPicked}
use Rattle.disk_model.specs.Plan.{Counted, names}
use Rattle.disk_model.specs.Counts.{covered}
use Rattle.disk_model.specs.declared.plan.CallKind.{CallKind}
use Rattle.disk_model.specs.declared.plan.CallKind.TheVariants.{Any}
use Rattle.disk_model.specs.declared.plan.DeviceCall.{DeviceCall}
use Rattle.disk_model.specs.declared.plan.FailPlan.{FailPlan}
use Rattle.disk_model.specs.declared.memory.MemDisk.{MemDisk}

-- the contents now: after `new` of 3 bytes 0 0 0
abbrev pub seen_of : MemDisk → List ℕ
seen_of disk = disk.history.bytes.items

-- the known length in bytes: that of the contents
abbrev pub known_of : MemDisk → ℕ
known_of disk = length (seen_of disk)

-- the images of a crash now
abbrev pub may_leave_of : MemDisk → List ℕ → Type 0
may_leave_of disk = images_of disk.history

-- the clock: how many operations were performed
abbrev pub moment_of : MemDisk → ℕ
moment_of disk = clock_of disk.history

-- the images of crashes at that moment or later
abbrev pub left_since_of : MemDisk → ℕ → List ℕ → Type 0
left_since_of disk = left_of disk.history

-- how often the disk failed
abbrev pub faults_of : MemDisk → ℕ
faults_of disk = disk.counts.faults

-- how many bytes were written
abbrev pub written_of : MemDisk → ℕ
written_of disk = disk.written

-- how many calls found no memory
abbrev pub starved_of : MemDisk → ℕ
starved_of disk = disk.counts.starved

-- which calls fail
abbrev pub plan_of : MemDisk → FailPlan
plan_of disk = disk.counts.plan

-- how many calls of a kind came since the plan was set
abbrev pub calls_of_kind : MemDisk → CallKind → ℕ
calls_of_kind disk = covered disk.counts

-- how many calls came since the plan was set
abbrev pub calls_of : MemDisk → ℕ
calls_of disk = calls_of_kind disk Any

-- These bytes are the image of a crash now that a number picks: right after a sync, for each number, the contents.
abbrev pub IsPickedFrom : MemDisk → ℕ → List ℕ → Type 0
IsPickedFrom disk = IsPicked disk.history.start.items (past_of disk.history)

-- a count with n more, as far as its type goes
abbrev pub raised_by : ℕ → ℕ → ℕ
raised_by n count = min (count + n) (2 ^ 64 - 1)

-- Nothing changed: neither the contents, nor what a crash may leave or might have left.
pub record Undisturbed (old new : MemDisk) : Type 0 where
  pub seen : seen_of new ≡ seen_of old
  pub written : written_of new ≡ written_of old
  pub moment : moment_of new ≡ moment_of old
  pub images : (c : List ℕ) → may_leave_of new c ↔ may_leave_of old c
  pub since : (t : ℕ) (c : List ℕ) → left_since_of new t c ↔ left_since_of old t c

-- The answer of a call, which is counted: a call that the plan names fails, and so does one that raises `starved`, and
-- no other. A failure is counted once.
pub record Answers {T E : Type 0} (call : DeviceCall) (old new : MemDisk) (result : Result T E) : Type 0 where
  pub plan : plan_of new ≡ plan_of old
  pub counted : Counted call (calls_of_kind old) (calls_of_kind new)
  pub named : IsTrue (names (plan_of old) call (calls_of_kind new)) → IsErr result
  pub failed : OnErr result (IsTrue (names (plan_of old) call (calls_of_kind new)) ⊎ Rose (starved_of old) (starved_of new))
  pub unstarved : OnOk result (starved_of new ≡ starved_of old)
  pub starved : OnErr result ((starved_of new ≡ starved_of old) ⊎ (starved_of new ≡ raised (starved_of old)))
  pub faultless : OnOk result (faults_of new ≡ faults_of old)
  pub faults : OnErr result (faults_of new ≡ raised (faults_of old))

-- A write took effect and is not stable: its bytes stand in the contents, and a crash may leave any bytes in its range.
pub record Wrote (offset : ℕ) (bytes : List ℕ) (old new : MemDisk) : Type 0 where
  pub seen : seen_of new ≡ patched (seen_of old) offset bytes
  pub unsynced : Reaches (Torn offset (length bytes)) (may_leave_of old) (may_leave_of new)
  pub written : written_of new ≡ raised_by (length bytes) (written_of old)
