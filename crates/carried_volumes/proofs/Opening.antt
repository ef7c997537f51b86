-- What a volume carries that passes all checks that are made until files have bytes.
use Rattle.std.proofs.Common.{◌≡◌, ◌≢◌, ℕ, ◌+◌, ◌%◌, ◌≤◌, ◌<◌, List, [], length, take, drop, refl, sym, ap, subst, ◌∙◌, inl, inr, arith}
use Rattle.std.specs.Prelude.{Bool, true, false, cond, not, ◌&&◌, ◌==◌, nat_lt, nat_le, is_some, Option, Some, None, option_map, MatchOption}
use Rattle.std.specs.FinMap.{get}
use Rattle.std.proofs.lemmas.Bool.{cases_Bool, and_parts, and_from, eq-eqb, ne_eqb, le-leb, lt-ltb, le-ltb, not-true}
use Rattle.std.proofs.lemmas.Option.{cond_some, none-some}
use Rattle.block_layout.specs.declared.geometry.Geometry.{Geometry}
use Rattle.block_layout.specs.Sizes.{data_start}
use Rattle.inode_table.specs.declared.attrs.Attr.{Attr}
use Rattle.inode_table.specs.declared.attrs.Kind.{Kind}
use Rattle.inode_table.specs.declared.attrs.Kind.TheVariants as kinds
use Rattle.flat_dirs.specs.declared.slot.Slot.{Slot}
use Rattle.flat_dirs.specs.Slot.{is_slot, slot_in, parent_in, length_in, name_in}
use Rattle.ccfs_base.specs.Names.{is_name}
use Rattle.tree_model.specs.declared.rows.Body.{Body}
use Rattle.tree_model.specs.declared.rows.Row.{Row}
use Rattle.tree_model.specs.Rows.{Rows}
use Rattle.image_model.specs.Fields.{slot_offset}
use Rattle.image_model.specs.Reading.{IsWhole}
use Rattle.image_model.specs.Volumes.{Volume, Table, volume_of, table_of, data_blocks, is_block_used, is_used, attr, slot}
use Rattle.image_model.specs.Files.{is_dir_attr, is_dir_kind, is_file_attr, is_file_at, file_bytes, pointers}
use Rattle.image_model.specs.Lowest.{lowest, NoneBelow, IsLowest}
use Rattle.image_model.specs.Checks.{all_built, bare, is_entry, is_bad_place, is_bad_bit, first_failure_for_now}
use Rattle.image_model.specs.Trees.{has_row, slot_seen, parent_given, name_given, body_given, body_of_kind, row_by_inode, row_at, with_parent, inodes_of, tree_of}
use Rattle.image_model.specs.Carrying.{inode_in, IsRenamed, CarriesRows, HoldsFiles}
use Rattle.image_model.specs.ChangeLaws.{IsSized, AreOrphansNamed}
use Rattle.image_model.specs.SoundLaws.{ListsRows}
use Rattle.image_model.proofs.Least.{lowest_is_lowest}
use Rattle.image_model.proofs.Halves.{NonesFail, each_passes, right, apart}
use Rattle.image_model.proofs.NoPointers.{bare_has_no_pointers}
use Rattle.image_model.proofs.CarriedTables.{HasRow, row_there}
use Rattle.image_model.proofs.SoundVolumes.{sound_volumes_carry, inodes_are_listed}
use Rattle.image_check.proofs.Sounds.{IsSound, sound_of}
use Rattle.image_check.proofs.Entries.{not_orphan}
use Rattle.carried_volumes.specs.Plain.{IsBareBody, IsPlain, IsDense}
use Rattle.carried_volumes.specs.Carried.{no_bytes, Carried, HaveInodes}
use Rattle.carried_volumes.specs.Laws.{IsOpened}
use Rattle.carried_volumes.proofs.Pairing.{not_there}
use Rattle.carried_volumes.proofs.Counting.{few_rows}
use Rattle.carried_volumes.proofs.ClearBlocks.{all_fail, bad_is_used}

-- ---- rows without bytes

bare_body : (o : Option Attr) (bytes : List ℕ) → (is_file_attr o ≡ true → bytes ≡ []) → body_given o bytes ≡ body_given o []
bare_body None bytes none = refl
bare_body (Some a) bytes none = elim (a.kind) as (λ (k : Kind). (cond (is_dir_kind k) false true ≡ true → bytes ≡ []) → body_of_kind k a.changes bytes ≡ body_of_kind k a.changes []) [
  | kinds.Dir ↦ λ h. refl
  | kinds.File ↦ λ h. ap (body_of_kind kinds.File a.changes) (h refl)
] none

is_bare_body : (o : Option Attr) → IsBareBody (body_given o [])
is_bare_body None = refl
is_bare_body (Some a) = elim (a.kind) as (λ (k : Kind). IsBareBody (body_of_kind k a.changes [])) [
  | kinds.Dir ↦ tt
  | kinds.File ↦ refl
]

row_bare : (t : Table) (files : ℕ → List ℕ) → ((i : ℕ) → is_file_at t i ≡ true → files i ≡ []) → (i : ℕ) → row_at t files i ≡ row_at t no_bytes i
row_bare t files empty i = elim (cases_Bool (has_row t i)) [
  | inl there ↦
      let outer = and_parts (nat_lt i t.inodes) (t.is_used i && not (i == 1)) there in
      let inner = and_parts (t.is_used i) (not (i == 1)) outer.1 in
      let body : body_given (t.attr i) (files i) ≡ body_given (t.attr i) [] = bare_body (t.attr i) (files i) (λ file.
      empty i (and_from (nat_lt i t.inodes) (t.is_used i && is_file_attr (t.attr i)) outer.0 (and_from (t.is_used i) (is_file_attr (t.attr i)) inner.0 file))) in
      ap (λ (b : Body). cond (has_row t i) (Some (record { parent = parent_given (slot_seen t i); name = name_given (slot_seen t i); body = b })) None) body
  | inr gone ↦ ap (λ b. cond b (Some (row_by_inode t files i)) None) gone ∙ sym (ap (λ b. cond b (Some (row_by_inode t no_bytes i)) None) gone)
]

rows_bare : (t : Table) (files : ℕ → List ℕ) → ((i : ℕ) → is_file_at t i ≡ true → files i ≡ []) → row_at t files ≡ row_at t no_bytes
rows_bare t files empty = let each = row_bare t files empty in λ z. λ i. each i z

-- ---- slots

slot_there : (t : Table) (dir : Bool) (o : Option Slot) → is_bad_place all_built t dir o ≡ false → (s : Slot) × (o ≡ Some s)
slot_there t dir None e = absurd (let z : true ≡ false = e in cc)
slot_there t dir (Some s) e = (s, refl)

slot_named : (bytes : List ℕ) (s : Slot) → slot_in bytes ≡ Some s → is_name s.name ≡ true
slot_named bytes s e =
    let c = cond_some (is_slot bytes) (record { parent = parent_in bytes; name = name_in bytes }) s e in
    let inner = and_parts (nat_le 1 (length_in bytes)) (nat_le (length_in bytes) 64 && is_name (name_in bytes)) c.0 in
    ap (λ (z : Slot). is_name z.name) (sym c.1) ∙ (and_parts (nat_le (length_in bytes) 64) (is_name (name_in bytes)) inner.1).1

map_some : (f : ℕ → ℕ) (o : Option ℕ) (y : ℕ) → option_map f o ≡ Some y → (x : ℕ) × (o ≡ Some x)
map_some f None y e = absurd (none-some y e)
map_some f (Some x) y e = (x, refl)

-- ---- tests of all blocks

none_there : (test : ℕ → Bool) (n : ℕ) (o : Option ℕ) → MatchOption o (NoneBelow test n) (IsLowest test n) → is_some o ≡ false → NoneBelow test n
none_there test n None none e = none
none_there test n (Some i) is e = absurd (let z : true ≡ false = e in cc)

-- ---- the volume

-- The slot of a used inode from 2 on.
record HasSlot (v : Volume) (i : ℕ) : Type 0 where
  parent : ℕ
  name : List ℕ
  is : slot v i ≡ Some (record { parent = parent; name = name })
  apart : parent ≢ 1
  named : is_name name ≡ true

module _ (v : Volume) (sized : IsSized v) (passes : first_failure_for_now None v ≡ None) where
  abbrev table : Table
  table = table_of v

  abbrev inodes : List ℕ
  inodes = inodes_of table (file_bytes v)

  abbrev tree : Rows
  tree = tree_of v

  sound : IsSound v
  sound = sound_of None v passes

  fails : NonesFail bare None v
  fails = each_passes bare None v passes

  lists : ListsRows table inodes
  lists = (inodes_are_listed v sound.passes).0

  halves : CarriesRows v (file_bytes v) tree inodes × HoldsFiles v (file_bytes v)
  halves = apart v tree inodes sized.long (sound_volumes_carry v sound.passes).1

  rows : CarriesRows v no_bytes tree inodes
  rows =
      let c = halves.0 in
      record {
        formatted = c.formatted;
        roots = c.roots;
        records = c.records;
        slots = c.slots;
        twins = c.twins;
        rings = c.rings;
        counted = c.counted;
        sized = λ i file. c.sized i file ∙ ap length (sound.empty i file);
        renamed = subst (IsRenamed inodes tree) (rows_bare table (file_bytes v) sound.empty) c.renamed;
      }

  -- ---- slots

  slot_of : (i : ℕ) → 2 ≤ i → i < v.inodes → is_used v i ≡ true → HasSlot v i
  slot_of i least within used =
      let entry : is_entry table i ≡ true = and_from (nat_le 2 i) (is_used v i) (le-leb 2 i least) used in
      let good : is_bad_place all_built table (is_dir_attr (attr v i)) (slot v i) ≡ false =
      ap (λ b. b && is_bad_place all_built table (is_dir_attr (attr v i)) (slot v i)) (sym entry) ∙ sound.table.slots i within in
      let s = slot_there table (is_dir_attr (attr v i)) (slot v i) good in
      record {
        parent = s.0.parent;
        name = s.0.name;
        is = s.1;
        apart = not_orphan table sound.bare i s.0
            (ap (λ b. cond b (slot v i) None) (and_from (is_entry table i) (nat_lt i v.inodes) entry (lt-ltb i v.inodes within)) ∙ s.1);
        named = slot_named (take 69 (drop (slot_offset v.inodes i) v.bytes)) s.0 s.1;
      }

  orphans : AreOrphansNamed table
  orphans i least within used =
      let s : HasSlot v i = slot_of i least within used in
      (s.parent, (s.name, s.is, λ one. absurd (s.apart one)))

  -- ---- the tree

  row_of : (s : ℕ) (r : Row) → get tree s ≡ Some r → HasRow table no_bytes (inode_in inodes s) (with_parent (inode_in inodes) r)
  row_of s r is = row_there table no_bytes (inode_in inodes s) (with_parent (inode_in inodes) r) (rows.renamed.each s r is).1

  not_root : (s : ℕ) (r : Row) → s ≢ 0 → get tree s ≡ Some r → inode_in inodes s ≢ 0
  not_root s r ne is e = ne (lists.once s 0 (rows.renamed.each s r is).0 lists.root.0 (e ∙ sym lists.root.1))

  -- the slot of a row but the root's
  row_slot : (s : ℕ) (r : Row) → s ≢ 0 → get tree s ≡ Some r → HasSlot v (inode_in inodes s)
  row_slot s r ne is =
      let h : HasRow table no_bytes (inode_in inodes s) (with_parent (inode_in inodes) r) = row_of s r is in
      let other : inode_in inodes s ≢ 1 = h.other in
      let low : inode_in inodes s ≢ 0 = not_root s r ne is in
      slot_of (inode_in inodes s) (omega arith) h.within h.used

  seen_slot : (s : ℕ) (r : Row) (ne : s ≢ 0) (is : get tree s ≡ Some r) → slot_seen table (inode_in inodes s) ≡ Some (record { parent = (row_slot s r ne is).parent; name = (row_slot s r ne is).name })
  seen_slot s r ne is = ap (λ b. cond b None (slot v (inode_in inodes s))) (ne_eqb (inode_in inodes s) 0 (not_root s r ne is)) ∙ (row_slot s r ne is).is

  placed : (s : ℕ) (r : Row) → s ≢ 0 → get tree s ≡ Some r → (dir : ℕ) × (r.parent ≡ Some dir)
  placed s r ne is =
      let h : HasRow table no_bytes (inode_in inodes s) (with_parent (inode_in inodes) r) = row_of s r is in
      let z : HasSlot v (inode_in inodes s) = row_slot s r ne is in
      map_some (inode_in inodes) r.parent z.parent
      (ap (λ (q : Row). q.parent) (sym h.is) ∙ ap parent_given (seen_slot s r ne is) ∙ ap (λ b. cond b None (Some z.parent)) (ne_eqb z.parent 1 z.apart))

  named : (s : ℕ) (r : Row) → s ≢ 0 → get tree s ≡ Some r → is_name r.name ≡ true
  named s r ne is =
      let h : HasRow table no_bytes (inode_in inodes s) (with_parent (inode_in inodes) r) = row_of s r is in
      let z : HasSlot v (inode_in inodes s) = row_slot s r ne is in
      ap is_name (ap (λ (q : Row). q.name) (sym h.is) ∙ ap name_given (seen_slot s r ne is) ∙ ap (λ b. cond b [] z.name) (ne_eqb z.parent 1 z.apart)) ∙ z.named

  plain : IsPlain tree
  plain = record {
    tree = (sound_volumes_carry v sound.passes).0;
    placed = placed;
    named = named;
    bare = λ s r is. subst IsBareBody (ap (λ (q : Row). q.body) (row_of s r is).is) (is_bare_body (attr v (inode_in inodes s)));
  }

  -- ---- its serials and inodes

  dense : IsDense tree (length inodes)
  dense = record {
    below = λ s less none. let z : true ≡ false = sym (lt-ltb s (length inodes) less) ∙ sym ((inodes_are_listed v sound.passes).1 s) ∙ ap (λ o. is_some o) none in cc;
    above = λ s more. not_there (get tree s) ((inodes_are_listed v sound.passes).1 s ∙ le-ltb s (length inodes) more);
  }

  have : HaveInodes v.inodes inodes tree
  have = record {
    listed = λ s r is. (rows.renamed.each s r is).0;
    there = λ s r is. (row_of s r is).within;
    root = lists.root.1;
    high = λ s r ne is.
        let other : inode_in inodes s ≢ 1 = (row_of s r is).other in
        let low : inode_in inodes s ≢ 0 = not_root s r ne is in
        omega arith;
    apart = λ s u r q is at same. rows.renamed.once s u r q is at same;
    few = few_rows v tree inodes (length inodes) rows dense.above;
  }

  -- ---- blocks

  no_pointers : pointers table ≡ []
  no_pointers = bare_has_no_pointers None v fails.roots fails.records

  unused : (item : ℕ) → item < data_blocks v → is_block_used v item ≡ false
  unused item within =
      let none : NoneBelow (is_bad_bit v) (data_blocks v) = none_there (is_bad_bit v) (data_blocks v) (lowest (is_bad_bit v) (data_blocks v)) (lowest_is_lowest (is_bad_bit v) (data_blocks v))
      (not-true (is_some (lowest (is_bad_bit v) (data_blocks v))) (right _ 261 fails.marked)) in
      sym (bad_is_used v item no_pointers) ∙ none item within

  carried : Carried v tree inodes
  carried = record {
    sized = sized;
    rows = rows;
    orphans = orphans;
    plain = plain;
    unused = unused;
    counted = halves.1.counted ∙ all_fail (is_block_used v) (data_blocks v) unused;
  }

  pub opened : IsOpened v tree inodes
  opened = record { carried = carried; have = have; dense = dense }

-- ---- the bytes of an image

whole_is_sized : (g : Geometry) (bytes : List ℕ) → IsWhole g bytes → IsSized (volume_of g bytes)
whole_is_sized g bytes whole =
    let first = g.first_data_place in
    let rest = g.data_to_the_end in
    let least = g.least_data in
    let low : nat_le 32 g.inodes ≡ true = le-leb 32 g.inodes g.least_inodes in
    let high : nat_le g.inodes 8192 ≡ true = le-leb g.inodes 8192 g.most_inodes in
    let steps : (g.inodes % 32 == 0) ≡ true = eq-eqb (g.inodes % 32) 0 g.inodes_in_steps in
    let room : nat_le (data_start g.inodes + 64) g.blocks ≡ true = le-leb (data_start g.inodes + 64) g.blocks (omega arith) in
    record {
      blocks = and_from (nat_le 512 g.blocks) (nat_le g.blocks 16384) (le-leb 512 g.blocks g.least_blocks) (le-leb g.blocks 16384 g.most_blocks);
      inodes = λ z. low z && high z && steps z && room z;
      long = whole;
    }

pub sound_volumes_are_opened : (g : Geometry) (bytes : List ℕ) → IsWhole g bytes → first_failure_for_now None (volume_of g bytes) ≡ None
    → IsOpened (volume_of g bytes) (tree_of (volume_of g bytes)) (inodes_of (table_of (volume_of g bytes)) (file_bytes (volume_of g bytes)))
sound_volumes_are_opened g bytes whole passes = opened (volume_of g bytes) (whole_is_sized g bytes whole) passes
