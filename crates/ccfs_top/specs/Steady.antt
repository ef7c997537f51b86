-- What a call leaves of a disk's count of faults and of its doubt, by the fact that the device failed in it.
use Rattle.std.specs.Prelude.{◌≡◌, ℕ, false, Result, Ok, Err, IsErrOf}
use Rattle.fault_counts.specs.Counts.{Rose}
use Rattle.disk_model.specs.declared.disk.Disk.{Ghosts}
use Rattle.ccfs_base.specs.declared.refused.Returned.{Returned}
use Rattle.ccfs_top.specs.declared.script.ScriptEnd.{ScriptEnd}
use Rattle.ccfs_top.specs.declared.script.ScriptEnd.TheVariants as script_end
use Rattle.ccfs_top.specs.declared.stop.Stop.{Stop}
use Rattle.ccfs_top.specs.declared.stop.Stop.TheVariants as stop

-- the count rose, where the device failed
abbrev pub Rises : {X : Type 0} → Ghosts X → X → X → Type 0 → Type 0
Rises d old new failed = failed → Rose (d.faults old) (d.faults new)

-- the count is as it was, where it didn't fail
abbrev pub Steady : {X : Type 0} → Ghosts X → X → X → Type 0 → Type 0
Steady d old new failed = (failed → ⊥) → d.faults new ≡ d.faults old

-- a disk that wasn't in doubt isn't, where it didn't fail
abbrev pub Sure : {X : Type 0} → Ghosts X → X → X → Type 0 → Type 0
Sure d old new failed = d.in_doubt old ≡ false → (failed → ⊥) → d.in_doubt new ≡ false

-- a count of faults is as it was, where this isn't so
abbrev pub Unmoved : ℕ → ℕ → Type 0 → Type 0
Unmoved old new failed = (failed → ⊥) → new ≡ old

-- a script gave no calls since the source failed
abbrev pub BySource : {A : Type 0} → Result A ScriptEnd → Type 0
BySource result = IsErrOf result script_end.Source

-- a run stopped since the source failed
abbrev pub StoppedBySource : {A X : Type 0} → Result A (Returned Stop X) → Type 0
StoppedBySource (Ok done) = ⊥
StoppedBySource (Err refused) = refused.fault ≡ stop.Source
