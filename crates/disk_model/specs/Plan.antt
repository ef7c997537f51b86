-- Which calls a plan fails. Calls are numbered from 1, from when the plan was set, and each kind has its own numbers.
use Rattle.std.specs.Prelude.{◌≡◌, ℕ, Bool, true, false, ◌&&◌, ◌==◌, nat_le, if◌then◌else◌}
use Rattle.fault_counts.specs.Counts.{raised}
use Rattle.disk_model.specs.declared.plan.CallKind.{CallKind}
use Rattle.disk_model.specs.declared.plan.CallKind.TheVariants.{Any, Read, Write, Sync}
use Rattle.disk_model.specs.declared.plan.DeviceCall.{DeviceCall}
use Rattle.disk_model.specs.declared.plan.DeviceCall.TheVariants.{ReadAt, WriteAt, SyncAll}
use Rattle.disk_model.specs.declared.plan.FailPlan.{FailPlan}
use Rattle.disk_model.specs.declared.plan.FailPlan.TheVariants.{Never, From, One}

-- a kind covers a call: `Any` covers each call, `Read` the reads alone, and only `Any` covers `size` and `set_size`
abbrev pub covers : CallKind → DeviceCall → Bool
covers Any call = true
covers Read ReadAt = true
covers Write WriteAt = true
covers Sync SyncAll = true
covers kind call = false

-- Each kind that covers the call counts one more. A read after 4 calls with 2 reads is the 5th call and the 3rd read.
abbrev pub Counted : DeviceCall → (CallKind → ℕ) → (CallKind → ℕ) → Type 0
Counted call old new = (kind : CallKind) → new kind ≡ (if covers kind call then raised (old kind) else old kind)

-- The plan names the call that was counted last. `From { call: 3 }` names each call from the third on,
-- `One { kind: Sync, number: 2 }` the second sync alone.
abbrev pub names : FailPlan → DeviceCall → (CallKind → ℕ) → Bool
names Never call count = false
names (From first) call count = nat_le first (count Any)
names (One kind number) call count = covers kind call && (count kind == number)
