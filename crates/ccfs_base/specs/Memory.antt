-- Sources and sinks in memory: what they hold, and which of their calls fails.
use Rattle.std.specs.Prelude.{◌≡◌, ◌==◌, ℕ, Bool, false, cond, IsTrue, IsFalse, Option, Some, None, Result, Ok, Err, List}
use Rattle.fault_counts.specs.Counts.{raised}
use Rattle.ccfs_base.specs.declared.edges.SourceFailed.{SourceFailed}
use Rattle.ccfs_base.specs.declared.edges.SinkFailed.{SinkFailed}

-- a source: what it gave and what is left, the most bytes of a call, the number of the call that fails, its calls so far and its count of faults
pub record SourceNow : Type 0 where
  pub given : List ℕ
  pub left : List ℕ
  pub most : ℕ
  pub fails : Option ℕ
  pub calls : ℕ
  pub faults : ℕ

-- a sink: what it holds, the most bytes of a call, the number of the call that fails, its calls so far, its count of faults, and the calls that found no memory
pub record SinkNow : Type 0 where
  pub held : List ℕ
  pub most : ℕ
  pub fails : Option ℕ
  pub calls : ℕ
  pub faults : ℕ
  pub starved : ℕ

-- the plan names the call with this number: `Some 3` names call 3 alone, and `None` names none
abbrev pub names_call : Option ℕ → ℕ → Bool
names_call None number = false
names_call (Some call) number = call == number

-- a call of a source is counted, and fails exactly where the plan names it
abbrev pub SourceEnds : {T : Type 0} → SourceNow → SourceNow → Result T SourceFailed → Type 0
SourceEnds before now (Ok n) = IsFalse (names_call before.fails (raised before.calls)) × (now.faults ≡ before.faults)
SourceEnds before now (Err e) = IsTrue (names_call before.fails (raised before.calls)) × (now.faults ≡ raised before.faults)

-- a call of a sink is counted, and fails exactly where the plan names it or memory was wanted, which raises the count of starved calls
abbrev pub SinkEnds : {T : Type 0} → SinkNow → SinkNow → Result T SinkFailed → Type 0
SinkEnds before now (Ok n) = IsFalse (names_call before.fails (raised before.calls)) × (now.starved ≡ before.starved) × (now.faults ≡ before.faults)
SinkEnds before now (Err e) = (now.starved ≡ cond (names_call before.fails (raised before.calls)) before.starved (raised before.starved)) × (now.faults ≡ raised before.faults)
