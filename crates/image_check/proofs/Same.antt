-- A table that was read gives each check of inodes the same answer as the volume's.
use Rattle.std.proofs.Common.{◌≡◌, ℕ, zero, suc, ◌<◌, refl, sym, ap, ◌∙◌, arith}
use Rattle.std.proofs.Math.Path.{ap₂}
use Rattle.std.specs.Prelude.{Bool, true, false, cond, not, ◌&&◌, ◌||◌, nat_lt, nat_le, ◌==◌, is_some, Option, Some, None, option_map}
use Rattle.std.specs.Option.{option_or}
use Rattle.std.proofs.lemmas.Bool.{ltb-true, lt-ltb}
use Rattle.inode_table.specs.declared.attrs.Attr.{Attr}
use Rattle.free_maps.specs.Maps.{is_set}
use Rattle.flat_dirs.specs.declared.slot.Slot.{Slot}
use Rattle.flat_dirs.specs.Slots.{is_slot_at}
use Rattle.tree_model.specs.Rows.{up}
use Rattle.tree_model.specs.Tests.{is_it}
use Rattle.image_model.specs.declared.check.Limits.{Limits}
use Rattle.image_model.specs.Volumes.{Volume, Table, table_of}
use Rattle.image_model.specs.Files.{is_dir_attr, is_dir_at}
use Rattle.image_model.specs.Lowest.{lowest}
use Rattle.image_model.specs.Checks.{is_entry, is_bad_attr, is_bad_record, is_bad_place, is_bad_slot, is_entry_at, has_lower, is_twin, parent_at, is_rooted, is_in_ring}
use Rattle.image_check.specs.declared.table.Table.{Table as Read}
use Rattle.image_check.specs.Tables.{seen, attr_kept, slot_kept, IsTableOf}

-- ---- tests

pub lowest_same : (p q : ℕ → Bool) (n : ℕ) → ((i : ℕ) → i < n → p i ≡ q i) → lowest p n ≡ lowest q n
lowest_same p q zero same = refl
lowest_same p q (suc n) same =
    ap₂ (λ (o : Option ℕ) (b : Bool). option_or o (cond b (Some n) None)) (lowest_same p q n (λ i h. same i (omega arith))) (same n (omega arith))

-- what is kept counts as what is there, where only that is looked at
of_used : (low used : Bool) (test : Option Attr → Bool) (a : Option Attr) → ((low && used) && test (cond used a None)) ≡ ((low && used) && test a)
of_used low true test a = refl
of_used true false test a = refl
of_used false false test a = refl

of_entry : (entry within : Bool) (test : Option Slot → Bool) (s : Option Slot) → within ≡ true → (entry && test (cond (entry && within) s None)) ≡ (entry && test s)
of_entry true within test s is = ap (λ b. test (cond b s None)) is
of_entry false within test s is = refl

-- ---- tables

-- What is kept of a table.
pub record IsKept (t s : Table) : Type 0 where
  pub inodes : s.inodes ≡ t.inodes
  pub used : (i : ℕ) → s.is_used i ≡ t.is_used i
  pub attr : (i : ℕ) → i < t.inodes → s.attr i ≡ attr_kept t i
  pub slot : (i : ℕ) → s.slot i ≡ slot_kept t i

pub is_kept : (v : Volume) (table : Read) → IsTableOf v table → IsKept (table_of v) (seen table)
is_kept v table is = record {
  inodes = ap (λ m. m.count) is.used;
  used = λ i. ap (λ m. is_set m.bytes i) is.used;
  attr = λ i h. is.attrs.each i h;
  slot = λ i. is.slots i;
}

module _ (t s : Table) (is : IsKept t s) where
  entry_same : (i : ℕ) → is_entry s i ≡ is_entry t i
  entry_same i = ap (λ b. nat_le 2 i && b) (is.used i)

  -- a test of attributes of used inodes from 2 on
  by_attr : (i : ℕ) (test : Option Attr → Bool) → i < t.inodes → (is_entry s i && test (s.attr i)) ≡ (is_entry t i && test (t.attr i))
  by_attr i test h = ap₂ (λ b a. b && test a) (entry_same i) (is.attr i h) ∙ of_used (nat_le 2 i) (t.is_used i) test (t.attr i)

  -- a test of their slots
  by_slot : (i : ℕ) (test : Option Slot → Bool) → i < t.inodes → (is_entry s i && test (s.slot i)) ≡ (is_entry t i && test (t.slot i))
  by_slot i test h = ap₂ (λ b o. b && test o) (entry_same i) (is.slot i) ∙ of_entry (is_entry t i) (nat_lt i t.inodes) test (t.slot i) (lt-ltb i t.inodes h)

  dir_within : (within : Bool) (i : ℕ) → nat_lt i t.inodes ≡ within → (within && (s.is_used i && is_dir_attr (s.attr i))) ≡ (within && (t.is_used i && is_dir_attr (t.attr i)))
  dir_within false i h = refl
  dir_within true i h =
      ap₂ (λ b a. b && is_dir_attr a) (is.used i) (is.attr i (ltb-true i t.inodes h)) ∙ of_used true (t.is_used i) is_dir_attr (t.attr i)

  pub dir_same : (i : ℕ) → is_dir_at s i ≡ is_dir_at t i
  dir_same i = ap (λ n. nat_lt i n && (s.is_used i && is_dir_attr (s.attr i))) is.inodes ∙ dir_within (nat_lt i t.inodes) i refl

  pub record_same : (limits : Limits) (i : ℕ) → i < t.inodes → is_bad_record limits s i ≡ is_bad_record limits t i
  record_same limits i h = by_attr i (is_bad_attr limits.longest) h

  place_same : (limits : Limits) (is_dir : Bool) (o : Option Slot) → is_bad_place limits s is_dir o ≡ is_bad_place limits t is_dir o
  place_same limits is_dir None = refl
  place_same limits is_dir (Some slot) = ap (λ b. not (b && not (slot.parent == 1 && (is_dir || not limits.orphans)))) (dir_same slot.parent)

  pub slot_same : (limits : Limits) (i : ℕ) → i < t.inodes → is_bad_slot limits s i ≡ is_bad_slot limits t i
  slot_same limits i h =
      by_attr i (λ a. is_bad_place limits s (is_dir_attr a) (s.slot i)) h
      ∙ ap (λ b. b && is_bad_place limits s (is_dir_attr (t.attr i)) (s.slot i)) (sym (entry_same i))
      ∙ by_slot i (is_bad_place limits s (is_dir_attr (t.attr i))) h
      ∙ ap (λ b. is_entry t i && b) (place_same limits (is_dir_attr (t.attr i)) (t.slot i))

  lower_same : (i : ℕ) (o : Option Slot) → i < t.inodes → has_lower s i o ≡ has_lower t i o
  lower_same i None h = refl
  lower_same i (Some slot) h =
      ap (λ o. is_some o) (lowest_same (is_entry_at s slot.parent slot.name) (is_entry_at t slot.parent slot.name) i (λ j l. by_slot j (λ o. is_slot_at o slot.parent slot.name) (omega arith)))

  pub twin_same : (i : ℕ) → i < t.inodes → is_twin s i ≡ is_twin t i
  twin_same i h = by_slot i (has_lower s i) h ∙ ap (λ b. is_entry t i && b) (lower_same i (t.slot i) h)

  kept_parent : (b : Bool) (o : Option Slot) → cond b (option_map (λ z. z.parent) (cond b o None)) None ≡ cond b (option_map (λ z. z.parent) o) None
  kept_parent true o = refl
  kept_parent false o = refl

  parent_same : (i : ℕ) → parent_at s i ≡ parent_at t i
  parent_same i =
      ap₂ (λ b n. cond (b && nat_lt i n) (option_map (λ z. z.parent) (s.slot i)) None) (entry_same i) is.inodes
      ∙ ap (λ o. cond (is_entry t i && nat_lt i t.inodes) (option_map (λ z. z.parent) o) None) (is.slot i)
      ∙ kept_parent (is_entry t i && nat_lt i t.inodes) (t.slot i)

  pub ring_same : (i : ℕ) → is_in_ring s i ≡ is_in_ring t i
  ring_same i =
      let parents : parent_at s ≡ parent_at t = λ k j. parent_same j k in
      ap (λ b. b && (not (is_it (parent_at s i) 1) && not (is_rooted s i))) (entry_same i)
      ∙ ap₂ (λ (f : ℕ → Option ℕ) (n : ℕ). is_entry t i && (not (is_it (f i) 1) && not (is_some (lowest (λ steps. is_it (up f steps i) 0) n)))) parents is.inodes
