use Rattle.std.proofs.Common.{◌≡◌, ℕ, ◌<◌, length}
use Rattle.std.specs.Prelude.{Some, slice_get}
use Rattle.image_model.specs.Carrying.{inode_in}
use Rattle.image_check.proofs.building.serials_of.Given as goal

-- the inodes so far have their serials
abbrev pub invariant-loop-serial : goal.invariant-loop-serial
invariant-loop-serial l = record {
  long : length l.serials.items ≡ l.count;
  each : (s : ℕ) → s < l.serial → slice_get l.serials.items (inode_in l.inodes s) ≡ Some s;
}
