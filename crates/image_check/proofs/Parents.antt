-- Parents, as the slots that were read tell them.
use Rattle.std.proofs.Common.{◌≡◌, ℕ, ap, refl}
use Rattle.std.specs.Prelude.{Bool, true, false, cond, ◌&&◌, nat_lt, Option, None, option_map}
use Rattle.std.specs.FinMap.{get}
use Rattle.flat_dirs.specs.declared.slot.Slot.{Slot}
use Rattle.image_model.specs.Checks.{is_entry, parent_at}
use Rattle.image_check.specs.declared.table.Table.{Table}
use Rattle.image_check.specs.Tables.{seen, HasOnlyEntries}

chosen : (b : Bool) (o : Option Slot) → (b ≡ false → o ≡ None) → option_map (λ s. s.parent) o ≡ cond b (option_map (λ s. s.parent) o) None
chosen true o none = refl
chosen false o none = ap (option_map (λ s. s.parent)) (none refl)

pub parent_kept : (table : Table) (inode : ℕ) → HasOnlyEntries table → option_map (λ s. s.parent) (get table.slots inode) ≡ parent_at (seen table) inode
parent_kept table inode only = chosen (is_entry (seen table) inode && nat_lt inode table.used.count) (get table.slots inode) (only inode)
