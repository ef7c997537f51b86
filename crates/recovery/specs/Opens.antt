-- What an opening finds on a disk, and what it leaves.
use Rattle.std.specs.Prelude.{◌≡◌, ◌⊎◌, ℕ, false, Some, option_map, List}
use Rattle.disk_model.specs.declared.disk.Disk.{Ghosts}
use Rattle.tree_model.specs.Rows.{Rows}
use Rattle.gate_journal.specs.Runs.{LeavesBy}
use Rattle.atomic_volume.specs.Opening.{Contents, opened}
use Rattle.atomic_volume.specs.Homing.{at_home}
use Rattle.atomic_volume.specs.Opened.{IsSettled}
use Rattle.image_check.specs.declared.kinds.BadImage.{BadImage}
use Rattle.recovery.specs.declared.fault.OpenFault.{OpenFault}
use Rattle.recovery.specs.Recovering.{recovered_for_now}
use Rattle.recovery.specs.Bad.{IsBad, Says}

-- an image on the way of an opening: one that a crash at its start may leave, or one that recovers to this number and this tree
abbrev pub IsOnTheWay : (List ℕ → Type 0) → ℕ × Rows → List ℕ → Type 0
IsOnTheWay images found c = images c ⊎ (recovered_for_now c ≡ Some found)

-- An opening found this number and this tree. The found contents are one of the images that a crash at its start might leave, and
-- what a read gave then where the disk wasn't in doubt. They recover to both, and open to `home` once their batches are there. Each
-- image left since the start is on the opening's way.
pub record Finds {X : Type 0} (d : Ghosts X) (old new : X) (home : Contents) (found : ℕ × Rows) : Type 0 where
  pub contents : List ℕ
  pub one_of_them : d.may_leave old contents
  pub as_seen : d.in_doubt old ≡ false → contents ≡ d.seen old
  pub opens : option_map at_home (opened contents) ≡ Some home
  pub recovers : recovered_for_now contents ≡ Some found
  pub images : LeavesBy d old new (IsOnTheWay (d.may_leave old) found)

-- A disk was refused: one of the images that a crash at the start might leave is bad as the fault says, and it is what a
-- read gave then where the disk wasn't in doubt.
pub record IsRefused {X : Type 0} (d : Ghosts X) (old : X) (fault : OpenFault) : Type 0 where
  pub contents : List ℕ
  pub one_of_them : d.may_leave old contents
  pub as_seen : d.in_doubt old ≡ false → contents ≡ d.seen old
  pub says : Says contents fault

-- A disk was refused as bad: its contents were made stable, and they are bad as the fault says.
pub record IsFoundBad {X : Type 0} (d : Ghosts X) (old new : X) (bad : BadImage) : Type 0 where
  pub settled : IsSettled d old new
  pub is : IsBad (d.seen new) bad.kind bad.block
