-- Until files have bytes and may be gone, what passes has neither, and passes the checks as they are.
use Rattle.std.proofs.Common.{◌≡◌, ℕ, ◌<◌, ◌⊎◌, refl, sym, ap, ◌∙◌, inl, inr, arith}
use Rattle.std.specs.Prelude.{Bool, true, false, cond, not, ◌&&◌, ◌||◌, ◌==◌, ◌↔◌, nat_lt, Option, Some, None, option_map, MatchOption}
use Rattle.std.proofs.lemmas.Bool.{and_parts, lt-ltb, ltb-true}
use Rattle.ccfs_base.specs.Limits.{file_max}
use Rattle.inode_table.specs.declared.attrs.Attr.{Attr}
use Rattle.inode_table.specs.Records.{record_block}
use Rattle.flat_dirs.specs.declared.slot.Slot.{Slot}
use Rattle.tree_model.specs.Tests.{is_it}
use Rattle.image_model.specs.declared.check.Limits.{Limits}
use Rattle.image_model.specs.declared.check.Check.TheVariants as checks
use Rattle.image_model.specs.Fields.{slot_block}
use Rattle.image_model.specs.Volumes.{Volume, Table, table_of}
use Rattle.image_model.specs.Files.{is_dir_at, is_file_attr, is_dir_attr, length_told}
use Rattle.image_model.specs.Lowest.{lowest, NoneBelow, IsLowest}
use Rattle.image_model.specs.Checks.{all_built, bare, is_entry, is_bad_attr, is_bad_record, is_bad_place, is_bad_slot, parent_at, is_not_bare, IsBare, block_of, failure, first_failure, first_failure_for_now}
use Rattle.image_model.proofs.Least.{lowest_is_lowest, lowest_none}
use Rattle.image_model.proofs.Halves.{NonesFail, each_passes, all_pass}

-- ---- tests

-- a test that fails wherever another does
fails_too : (b c : Bool) → (b ≡ true → c ≡ true) → c ≡ false → b ≡ false
fails_too true c more e = absurd (let z : true ≡ false = sym (more refl) ∙ e in cc)
fails_too false c more e = refl

-- one that fails where two others do
fails_with_two : (b c d : Bool) → (b ≡ true → (c ≡ true) ⊎ (d ≡ true)) → c ≡ false → d ≡ false → b ≡ false
fails_with_two true c d more p q = elim (more refl) [
  | inl e ↦ absurd (let z : true ≡ false = sym e ∙ p in cc)
  | inr e ↦ absurd (let z : true ≡ false = sym e ∙ q in cc)
]
fails_with_two false c d more p q = refl

both : (a b : Bool) → a ≡ true → b ≡ true → (a && b) ≡ true
both true b p q = q
both false b p q = absurd (let z : true ≡ false = sym p in cc)

either : (a b : Bool) → (a || b) ≡ true → (a ≡ true) ⊎ (b ≡ true)
either true b e = inl refl
either false b e = inr e

left : (a b : Bool) → a ≡ true → (a || b) ≡ true
left true b e = refl
left false b e = absurd (let z : true ≡ false = sym e in cc)

other : (a b : Bool) → b ≡ true → (a || b) ≡ true
other true b e = refl
other false b e = e

unmapped : (f : ℕ → ℕ) (o : Option ℕ) → option_map f o ≡ None → o ≡ None
unmapped f None e = refl
unmapped f (Some x) e = absurd (cc)

none_there : (test : ℕ → Bool) (n : ℕ) (o : Option ℕ) → MatchOption o (NoneBelow test n) (IsLowest test n) → o ≡ None → NoneBelow test n
none_there test n None none e = none
none_there test n (Some i) is e = absurd (cc)

none_below : (test : ℕ → Bool) (n : ℕ) → lowest test n ≡ None → NoneBelow test n
none_below test n e = none_there test n (lowest test n) (lowest_is_lowest test n) e

-- ---- records

light_attr : (a : Option Attr) → is_bad_attr file_max a ≡ true → is_bad_attr 0 a ≡ true
light_attr None e = refl
light_attr (Some a) e =
    let parts = and_parts (is_file_attr (Some a)) (nat_lt file_max a.length) e in
    let long : file_max < a.length = ltb-true file_max a.length parts.1 in
    both (is_file_attr (Some a)) (nat_lt 0 a.length) parts.0 (lt-ltb 0 a.length (omega arith))

heavy_attr : (a : Option Attr) → is_bad_attr 0 a ≡ true → (is_bad_attr file_max a ≡ true) ⊎ ((is_file_attr a && nat_lt 0 (length_told a)) ≡ true)
heavy_attr None e = inl refl
heavy_attr (Some a) e = inr e

bare_attr : (a : Option Attr) → (is_file_attr a && nat_lt 0 (length_told a)) ≡ true → is_bad_attr 0 a ≡ true
bare_attr None e = refl
bare_attr (Some a) e = e

-- ---- slots

-- of a slot: whether its parent is a directory, whether that is 1, and whether its inode is a directory
light_tests : (parent orphan dir : Bool) → not (parent && not (orphan && (dir || false))) ≡ true → not (parent && not (orphan && (dir || true))) ≡ true
light_tests true true true e = refl
light_tests true true false e = refl
light_tests true false dir e = e
light_tests false orphan dir e = refl

heavy_tests : (parent orphan dir : Bool) → not (parent && not (orphan && (dir || true))) ≡ true → (not (parent && not (orphan && (dir || false))) ≡ true) ⊎ (orphan ≡ true)
heavy_tests parent true dir e = inr refl
heavy_tests parent false dir e = inl e

orphan_tests : (parent orphan dir : Bool) → orphan ≡ true → not (parent && not (orphan && (dir || true))) ≡ true
orphan_tests true true true e = refl
orphan_tests true true false e = refl
orphan_tests false true dir e = refl
orphan_tests parent false dir e = absurd (let z : true ≡ false = sym e in cc)

light_place : (t : Table) (dir : Bool) (s : Option Slot) → is_bad_place all_built t dir s ≡ true → is_bad_place bare t dir s ≡ true
light_place t dir None e = refl
light_place t dir (Some s) e = light_tests (is_dir_at t s.parent) (s.parent == 1) dir e

-- whether a slot is in the orphan directory
abbrev is_orphan : Option Slot → Bool
is_orphan s = is_it (option_map (λ (x : Slot). x.parent) s) 1

heavy_place : (t : Table) (dir : Bool) (s : Option Slot) → is_bad_place bare t dir s ≡ true → (is_bad_place all_built t dir s ≡ true) ⊎ (is_orphan s ≡ true)
heavy_place t dir None e = inl refl
heavy_place t dir (Some s) e = heavy_tests (is_dir_at t s.parent) (s.parent == 1) dir e

orphan_place : (t : Table) (dir : Bool) (s : Option Slot) → is_orphan s ≡ true → is_bad_place bare t dir s ≡ true
orphan_place t dir None e = refl
orphan_place t dir (Some s) e = orphan_tests (is_dir_at t s.parent) (s.parent == 1) dir e

module _ (t : Table) (i : ℕ) where
  in_orphans : is_entry t i ≡ true → i < t.inodes → is_it (parent_at t i) 1 ≡ is_orphan (t.slot i)
  in_orphans e h = ap (λ b. is_it (cond b (option_map (λ s. s.parent) (t.slot i)) None) 1) (both (is_entry t i) (nat_lt i t.inodes) e (lt-ltb i t.inodes h))

  light_record : is_bad_record all_built t i ≡ true → is_bad_record bare t i ≡ true
  light_record e =
      let parts = and_parts (is_entry t i) (is_bad_attr file_max (t.attr i)) e in
      both (is_entry t i) (is_bad_attr 0 (t.attr i)) parts.0 (light_attr (t.attr i) parts.1)

  light_slot : is_bad_slot all_built t i ≡ true → is_bad_slot bare t i ≡ true
  light_slot e =
      let parts = and_parts (is_entry t i) (is_bad_place all_built t (is_dir_attr (t.attr i)) (t.slot i)) e in
      both (is_entry t i) (is_bad_place bare t (is_dir_attr (t.attr i)) (t.slot i)) parts.0 (light_place t (is_dir_attr (t.attr i)) (t.slot i) parts.1)

  abbrev has_bytes : Bool
  has_bytes = is_file_attr (t.attr i) && nat_lt 0 (length_told (t.attr i))

  with_bytes : is_entry t i ≡ true → has_bytes ≡ true → is_not_bare t i ≡ true
  with_bytes e h = both (is_entry t i) (has_bytes || is_it (parent_at t i) 1) e (left has_bytes (is_it (parent_at t i) 1) h)

  with_orphans : is_entry t i ≡ true → is_it (parent_at t i) 1 ≡ true → is_not_bare t i ≡ true
  with_orphans e h = both (is_entry t i) (has_bytes || is_it (parent_at t i) 1) e (other has_bytes (is_it (parent_at t i) 1) h)

  heavy_record : is_bad_record bare t i ≡ true → (is_bad_record all_built t i ≡ true) ⊎ (is_not_bare t i ≡ true)
  heavy_record e =
      let parts = and_parts (is_entry t i) (is_bad_attr 0 (t.attr i)) e in
      elim (heavy_attr (t.attr i) parts.1) [
        | inl bad ↦ inl (both (is_entry t i) (is_bad_attr file_max (t.attr i)) parts.0 bad)
        | inr long ↦ inr (with_bytes parts.0 long)
      ]

  heavy_slot : i < t.inodes → is_bad_slot bare t i ≡ true → (is_bad_slot all_built t i ≡ true) ⊎ (is_not_bare t i ≡ true)
  heavy_slot h e =
      let parts = and_parts (is_entry t i) (is_bad_place bare t (is_dir_attr (t.attr i)) (t.slot i)) e in
      elim (heavy_place t (is_dir_attr (t.attr i)) (t.slot i) parts.1) [
        | inl bad ↦ inl (both (is_entry t i) (is_bad_place all_built t (is_dir_attr (t.attr i)) (t.slot i)) parts.0 bad)
        | inr orphan ↦ inr (with_orphans parts.0 (in_orphans parts.0 h ∙ orphan))
      ]

  not_bare_is_bad : i < t.inodes → is_not_bare t i ≡ true → (is_bad_record bare t i ≡ true) ⊎ (is_bad_slot bare t i ≡ true)
  not_bare_is_bad h e =
      let parts = and_parts (is_entry t i) (has_bytes || is_it (parent_at t i) 1) e in
      elim (either has_bytes (is_it (parent_at t i) 1) parts.1) [
        | inl long ↦ inl (both (is_entry t i) (is_bad_attr 0 (t.attr i)) parts.0 (bare_attr (t.attr i) long))
        | inr orphan ↦ inr (both (is_entry t i) (is_bad_place bare t (is_dir_attr (t.attr i)) (t.slot i)) parts.0
            (orphan_place t (is_dir_attr (t.attr i)) (t.slot i) (sym (in_orphans parts.0 h) ∙ orphan)))
      ]

-- ---- all checks

pub with_records : (limits : Limits) (last : Option ℕ) (v : Volume) → failure limits last v checks.Record ≡ None → NoneBelow (is_bad_record limits (table_of v)) v.inodes
with_records limits last v e = none_below (is_bad_record limits (table_of v)) v.inodes (unmapped record_block (lowest (is_bad_record limits (table_of v)) v.inodes) e)

with_slots : (limits : Limits) (last : Option ℕ) (v : Volume) → failure limits last v checks.Slot ≡ None → NoneBelow (is_bad_slot limits (table_of v)) v.inodes
with_slots limits last v e = none_below (is_bad_slot limits (table_of v)) v.inodes (unmapped (slot_block v.inodes) (lowest (is_bad_slot limits (table_of v)) v.inodes) e)

swapped : (limits to : Limits) (last : Option ℕ) (v : Volume) → NonesFail limits last v
    → NoneBelow (is_bad_record to (table_of v)) v.inodes → NoneBelow (is_bad_slot to (table_of v)) v.inodes → NonesFail to last v
swapped limits to last v n records slots = record {
  formatted = n.formatted;
  roots = n.roots;
  records = ap (block_of record_block) (lowest_none (is_bad_record to (table_of v)) v.inodes records);
  slots = ap (block_of (slot_block v.inodes)) (lowest_none (is_bad_slot to (table_of v)) v.inodes slots);
  twins = n.twins;
  rings = n.rings;
  named_once = n.named_once;
  marked = n.marked;
  counted = n.counted;
}

from_bare : (last : Option ℕ) (v : Volume) → first_failure_for_now last v ≡ None → (first_failure last v ≡ None) × IsBare (table_of v)
from_bare last v none =
    let n = each_passes bare last v none in
    let records = with_records bare last v n.records in
    let slots = with_slots bare last v n.slots in (
      all_pass all_built last v (swapped bare all_built last v n
          (λ i h. fails_too (is_bad_record all_built (table_of v) i) (is_bad_record bare (table_of v) i) (light_record (table_of v) i) (records i h))
          (λ i h. fails_too (is_bad_slot all_built (table_of v) i) (is_bad_slot bare (table_of v) i) (light_slot (table_of v) i) (slots i h))),
      λ i h. fails_with_two (is_not_bare (table_of v) i) (is_bad_record bare (table_of v) i) (is_bad_slot bare (table_of v) i) (not_bare_is_bad (table_of v) i h) (records i h) (slots i h),
    )

to_bare : (last : Option ℕ) (v : Volume) → first_failure last v ≡ None → IsBare (table_of v) → first_failure_for_now last v ≡ None
to_bare last v none is_bare =
    let n = each_passes all_built last v none in
    let records = with_records all_built last v n.records in
    let slots = with_slots all_built last v n.slots in
    all_pass bare last v (swapped all_built bare last v n
    (λ i h. fails_with_two (is_bad_record bare (table_of v) i) (is_bad_record all_built (table_of v) i) (is_not_bare (table_of v) i) (heavy_record (table_of v) i) (records i h) (is_bare i h))
    (λ i h. fails_with_two (is_bad_slot bare (table_of v) i) (is_bad_slot all_built (table_of v) i) (is_not_bare (table_of v) i) (heavy_slot (table_of v) i h) (slots i h) (is_bare i h)))

pub bare_is_no_more : (last : Option ℕ) (v : Volume) → (first_failure_for_now last v ≡ None) ↔ ((first_failure last v ≡ None) × IsBare (table_of v))
bare_is_no_more last v = (from_bare last v, λ p. to_bare last v p.0 p.1)
