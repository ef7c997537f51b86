-- What each step of the checks of inodes tells.
use Rattle.std.proofs.Common.{◌≡◌, ℕ, ◌<◌, sym, ap, ◌∙◌}
use Rattle.std.proofs.Math.Path.{ap₂}
use Rattle.std.specs.Prelude.{Bool, ◌&&◌, Option, None, option_map}
use Rattle.inode_table.specs.Records.{record_block}
use Rattle.image_model.specs.declared.check.Limits.{Limits}
use Rattle.image_model.specs.declared.check.Check.TheVariants as checks
use Rattle.image_model.specs.Fields.{slot_block}
use Rattle.image_model.specs.Volumes.{Volume, table_of}
use Rattle.image_model.specs.Files.{is_dir_at}
use Rattle.image_model.specs.Lowest.{lowest}
use Rattle.image_model.specs.Checks.{bare, failure, unless, is_bad_record, is_bad_slot, is_twin, is_in_ring}
use Rattle.image_check.specs.declared.table.Table.{Table as Read}
use Rattle.image_check.specs.Tables.{seen, IsTableOf}
use Rattle.image_check.proofs.Same.{is_kept, dir_same, record_same, slot_same, twin_same, ring_same, lowest_same}

module _ (v : Volume) (table : Read) (is : IsTableOf v table) where
  lowest_in : (p q : ℕ → Bool) (found : Option ℕ) → found ≡ lowest p table.used.count → ((i : ℕ) → i < v.inodes → p i ≡ q i) → lowest q v.inodes ≡ found
  lowest_in p q found is_lowest same = sym (is_lowest ∙ ap (lowest p) (ap (λ m. m.count) is.used) ∙ lowest_same p q v.inodes same)

  pub root_told : (roots : Bool) (block : ℕ) (told : Option ℕ) → roots ≡ (is_dir_at (seen table) 0 && is_dir_at (seen table) 1) → block ≡ record_block 0 → told ≡ unless roots block → failure bare None v checks.Root ≡ told
  root_told roots block told right place answer =
      let kept = is_kept v table is in
      sym (answer ∙ ap₂ unless (right ∙ ap₂ (λ a b. a && b) (dir_same (table_of v) (seen table) kept 0) (dir_same (table_of v) (seen table) kept 1)) place)

  pub record_told : (limits : Limits) (found told : Option ℕ) → limits ≡ bare → found ≡ lowest (is_bad_record limits (seen table)) table.used.count → told ≡ option_map record_block found → failure bare None v checks.Record ≡ told
  record_told limits found told now is_lowest answer =
      ap (option_map record_block) (lowest_in (is_bad_record bare (seen table)) (is_bad_record bare (table_of v)) found
      (is_lowest ∙ ap (λ l. lowest (is_bad_record l (seen table)) table.used.count) now)
      (record_same (table_of v) (seen table) (is_kept v table is) bare)) ∙ sym answer

  pub slot_told : (limits : Limits) (found told : Option ℕ) → limits ≡ bare → found ≡ lowest (is_bad_slot limits (seen table)) table.used.count → told ≡ option_map (slot_block v.inodes) found → failure bare None v checks.Slot ≡ told
  slot_told limits found told now is_lowest answer =
      ap (option_map (slot_block v.inodes)) (lowest_in (is_bad_slot bare (seen table)) (is_bad_slot bare (table_of v)) found
      (is_lowest ∙ ap (λ l. lowest (is_bad_slot l (seen table)) table.used.count) now)
      (slot_same (table_of v) (seen table) (is_kept v table is) bare)) ∙ sym answer

  pub twin_told : (found told : Option ℕ) → found ≡ lowest (is_twin (seen table)) table.used.count → told ≡ option_map (slot_block v.inodes) found → failure bare None v checks.Twin ≡ told
  twin_told found told is_lowest answer =
      ap (option_map (slot_block v.inodes)) (lowest_in (is_twin (seen table)) (is_twin (table_of v)) found is_lowest (twin_same (table_of v) (seen table) (is_kept v table is))) ∙ sym answer

  pub ring_told : (found told : Option ℕ) → found ≡ lowest (is_in_ring (seen table)) table.used.count → told ≡ option_map (slot_block v.inodes) found → failure bare None v checks.Ring ≡ told
  ring_told found told is_lowest answer =
      ap (option_map (slot_block v.inodes)) (lowest_in (is_in_ring (seen table)) (is_in_ring (table_of v)) found is_lowest (λ i h. ring_same (table_of v) (seen table) (is_kept v table is) i)) ∙ sym answer
