-- What callers see of what this crate hands out.
use Rattle.std.specs.Prelude.{◌≡◌, ℕ, false, Some, List}
use Rattle.disk_model.specs.Moments.{Only}
use Rattle.disk_model.specs.declared.disk.Disk.{Ghosts}
use Rattle.atomic_volume.specs.declared.fault.VolumeFault.{VolumeFault}
use Rattle.atomic_volume.specs.Opening.{Contents, opened}
use Rattle.atomic_volume.specs.Refusals.{Refuses}

-- The contents of a disk were made stable: they are one of the images that a crash at the call's start might leave, and what a
-- read gave then where the disk wasn't in doubt. A crash leaves them and nothing else.
pub record IsSettled {X : Type 0} (d : Ghosts X) (old new : X) : Type 0 where
  pub one_of_them : d.may_leave old (d.seen new)
  pub as_seen : d.in_doubt old ≡ false → d.seen new ≡ d.seen old
  pub stable : Only (d.seen new) (d.may_leave new)
  pub sure : d.in_doubt new ≡ false

-- The contents of a disk were made stable, and they open to this.
pub record IsFound {X : Type 0} (d : Ghosts X) (old new : X) (contents : Contents) : Type 0 where
  pub settled : IsSettled d old new
  pub opens : opened (d.seen new) ≡ Some contents

-- The contents of a disk were made stable, and they are refused with this.
pub record IsRefused {X : Type 0} (d : Ghosts X) (old new : X) (fault : VolumeFault) : Type 0 where
  pub settled : IsSettled d old new
  pub refuses : Refuses (d.seen new) fault
