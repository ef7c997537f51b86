-- Runs of calls on one disk, by the disk's own members.
use Rattle.std.specs.Prelude.{◌≡◌, ℕ, List, false}
use Rattle.disk_model.specs.Moments.{Elapses}
use Rattle.disk_model.specs.declared.disk.Disk.{Ghosts}

-- Time went on from old to new, and each image left since old has P. Two such runs, one after the other, are one. After a
-- write of 7 over the first byte of 5 6 the images have 6 as their second byte.
pub record LeavesBy {X : Type 0} (d : Ghosts X) (old new : X) (P : List ℕ → Type 0) : Type 0 where
  pub time : Elapses (d.moment old) (d.moment new) (d.left_since old) (d.left_since new)
  pub each : (c : List ℕ) → d.left_since new (d.moment old) c → P c

-- A run that only reads: each image left since its start is one that a crash at its start may leave, and on a disk that
-- isn't in doubt the contents stay. One read is such a run, and so are two, and no call at all.
pub record Quiet {X : Type 0} (d : Ghosts X) (old new : X) : Type 0 where
  pub images : LeavesBy d old new (d.may_leave old)
  pub contents : d.in_doubt old ≡ false → d.seen new ≡ d.seen old
  pub doubt : d.in_doubt old ≡ false → d.in_doubt new ≡ false
