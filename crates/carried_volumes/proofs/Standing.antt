-- A volume that carries a tree stands for it, and has no file that isn't let through for now.
use Rattle.std.proofs.Common.{◌≡◌, ◌≢◌, ℕ, ◌≤◌, ◌<◌, List, [], take, sym, ap, ◌∙◌, inl, inr, arith}
use Rattle.std.specs.Prelude.{true, false, cond, not, ◌&&◌, ◌||◌, ◌==◌, nat_lt, nat_le, is_some, Option, Some, None, option_map, flat_map}
use Rattle.std.specs.List.{range_with_len}
use Rattle.std.specs.FinMap.{get}
use Rattle.std.proofs.lemmas.Bool.{cases_eq, cases_Bool, and_parts, and_from, and_left, and_right, or_from, eq-eqb, ne_eqb, leb-true, lt-ltb}
use Rattle.ccfs_base.specs.Limits.{pages}
use Rattle.flat_dirs.specs.declared.slot.Slot.{Slot}
use Rattle.tree_model.specs.declared.rows.Row.{Row}
use Rattle.tree_model.specs.Rows.{Rows}
use Rattle.tree_model.specs.Tests.{is_it}
use Rattle.image_model.specs.declared.check.Check.TheVariants as checks
use Rattle.image_model.specs.declared.pointer.Pointer.TheVariants.{Page}
use Rattle.image_model.specs.Volumes.{Volume, Table, table_of, data_blocks, block_bytes, is_block_used, is_used, attr, slot}
use Rattle.image_model.specs.Files.{is_file_attr, is_file_at, length_at, length_told, file_pointers, pointers_at, pointers, named}
use Rattle.image_model.specs.Checks.{all_built, is_entry, parent_at, is_bad_bit, unless, failure, IsBare}
use Rattle.image_model.specs.Trees.{parent_given, row_by_inode, row_at, with_parent}
use Rattle.image_model.specs.Carrying.{inode_in, HoldsFiles, Carries}
use Rattle.image_model.proofs.Least.{lowest_none}
use Rattle.image_model.proofs.Halves.{together}
use Rattle.image_model.proofs.CarriedTables.{HasRow, row_there, row_of_used, dir_is_used}
use Rattle.image_check.proofs.Free.{pointers_are_right}
use Rattle.carried_volumes.specs.Carried.{no_bytes, Carried}
use Rattle.carried_volumes.proofs.ClearBlocks.{none_at_all, all_fail, bad_is_used}
use Rattle.carried_volumes.proofs.Roots.{roots}

module _ (v : Volume) (t : Rows) (inodes : List ℕ) (c : Carried v t inodes) where
  abbrev table : Table
  table = table_of v

  -- ---- blocks

  no_length : (i : ℕ) → is_file_at table i ≡ true → length_at table i ≡ 0
  no_length i file = c.rows.sized i file

  none_at : (i : ℕ) → pointers_at table i ≡ []
  none_at i = elim (cases_Bool (is_file_at table i)) [
    | inl file ↦
        ap (λ b. cond b (file_pointers i (pages (length_at table i))) []) file
        ∙ ap (λ n. file_pointers i (pages n)) (no_length i file)
    | inr none ↦ ap (λ b. cond b (file_pointers i (pages (length_at table i))) []) none
  ]

  no_pointers : pointers table ≡ []
  no_pointers = none_at_all (pointers_at table) v.inodes 0 none_at

  marked : failure all_built None v checks.Bits ≡ None
  marked = ap (λ (o : Option ℕ). unless (not (is_some o)) 261)
      (lowest_none (is_bad_bit v) (data_blocks v) (λ i h. bad_is_used v i no_pointers ∙ c.unused i h))

  holds : HoldsFiles v no_bytes
  holds = record {
    contents = λ i file. sym (ap (λ n. take n (flat_map (λ page. block_bytes v (named v (Page i page))) (range_with_len 0 (pages n)))) (no_length i file));
    named_once = pointers_are_right v no_pointers;
    marked = marked;
    counted = c.counted ∙ sym (all_fail (is_block_used v) (data_blocks v) c.unused);
  }

  pub carries : Carries v t inodes
  carries = together v t inodes no_bytes c.rows holds

  -- ---- the root

  -- the row of a serial, in the table
  row_in : (s i : ℕ) (q : Row) → get t s ≡ Some q → inode_in inodes s ≡ i → HasRow table no_bytes i (with_parent (inode_in inodes) q)
  row_in s i q is at = row_there table no_bytes i (with_parent (inode_in inodes) q)
      (ap (row_at table no_bytes) (sym at) ∙ (c.rows.renamed.each s q is).1)

  -- a row with a parent has a slot that gives one
  parent_there : (s i : ℕ) (q : Row) → s ≢ 0 → get t s ≡ Some q → inode_in inodes s ≡ i → (d : ℕ) × (parent_given (cond (i == 0) None (slot v i)) ≡ Some d)
  parent_there s i q ne is at =
      let p = c.plain.placed s q ne is in
      let h : HasRow table no_bytes i (with_parent (inode_in inodes) q) = row_in s i q is at in
      (inode_in inodes p.0, ap (λ (r : Row). r.parent) h.is ∙ ap (option_map (inode_in inodes)) p.1)

  root_at : inode_in inodes 0 ≡ 0
  root_at =
      let used = (dir_is_used table 0 (roots v t inodes c.rows).0).0 in
      let w = c.rows.renamed.all 0 (row_by_inode table no_bytes 0) (row_of_used table no_bytes 0 used.within used.used (λ e. omega arith)) in
      elim (cases_eq w.0 0) [
        | inl e ↦ ap (inode_in inodes) (sym e) ∙ w.1.2
        | inr ne ↦ absurd (let p = parent_there w.0 0 w.1.0 ne w.1.1 w.1.2 in let z : ◌≡◌ {A = Option ℕ} None (Some p.0) = p.1 in cc)
      ]

  -- ---- nothing that isn't let through for now

  not_orphan : (i p : ℕ) (n : List ℕ) → 2 ≤ i → i < v.inodes → is_used v i ≡ true → slot v i ≡ Some (record { parent = p; name = n }) → p ≢ 1
  not_orphan i p n least within used is one =
      let w = c.rows.renamed.all i (row_by_inode table no_bytes i) (row_of_used table no_bytes i within used (λ e. omega arith)) in
      let at : inode_in inodes w.0 ≡ i = w.1.2 in
      let root : inode_in inodes 0 ≡ 0 = root_at in
      let ne : w.0 ≢ 0 = λ e. (let z : inode_in inodes w.0 ≡ inode_in inodes 0 = ap (inode_in inodes) e in omega arith) in
      let q = parent_there w.0 i w.1.0 ne w.1.1 at in
      let none : parent_given (cond (i == 0) None (slot v i)) ≡ None =
      ap (λ b. parent_given (cond b None (slot v i))) (ne_eqb i 0 (λ e. omega arith)) ∙ ap parent_given is
      ∙ ap (λ b. cond b None (Some p)) (eq-eqb p 1 one) in
      absurd (let z : ◌≡◌ {A = Option ℕ} None (Some q.0) = sym none ∙ q.1 in cc)

  bare_entry : (i : ℕ) → i < v.inodes → is_entry table i ≡ true → (is_file_attr (attr v i) && nat_lt 0 (length_told (attr v i)) || is_it (parent_at table i) 1) ≡ false
  bare_entry i within entry =
      let parts = and_parts (nat_le 2 i) (is_used v i) entry in
      let least : 2 ≤ i = leb-true 2 i parts.0 in
      let inside : nat_lt i v.inodes ≡ true = lt-ltb i v.inodes within in
      let bytes : (is_file_attr (attr v i) && nat_lt 0 (length_told (attr v i))) ≡ false = elim (cases_Bool (is_file_attr (attr v i))) [
        | inl file ↦ and_right (is_file_attr (attr v i)) (nat_lt 0 (length_told (attr v i)))
            (ap (nat_lt 0) (no_length i (and_from (nat_lt i v.inodes) (is_used v i && is_file_attr (attr v i)) inside (and_from (is_used v i) (is_file_attr (attr v i)) parts.1 file))))
        | inr dir ↦ and_left (is_file_attr (attr v i)) (nat_lt 0 (length_told (attr v i))) dir
      ] in
      let n = c.orphans i least within parts.1 in
      or_from (is_file_attr (attr v i) && nat_lt 0 (length_told (attr v i))) (is_it (parent_at table i) 1) bytes
      (ap (λ b. is_it (cond b (option_map (λ (s : Slot). s.parent) (slot v i)) None) 1) (and_from (is_entry table i) (nat_lt i v.inodes) entry inside)
      ∙ ap (λ (o : Option Slot). is_it (option_map (λ (s : Slot). s.parent) o) 1) n.1.1
      ∙ ne_eqb n.0 1 (not_orphan i n.0 n.1.0 least within parts.1 n.1.1))

  pub bare : IsBare table
  bare i within = elim (cases_Bool (is_entry table i)) [
    | inl entry ↦ and_right (is_entry table i) (is_file_attr (attr v i) && nat_lt 0 (length_told (attr v i)) || is_it (parent_at table i) 1) (bare_entry i within entry)
    | inr none ↦ and_left (is_entry table i) (is_file_attr (attr v i) && nat_lt 0 (length_told (attr v i)) || is_it (parent_at table i) 1) none
  ]

pub carried_volumes_stand : (v : Volume) (t : Rows) (inodes : List ℕ) → Carried v t inodes → Carries v t inodes × IsBare (table_of v)
carried_volumes_stand v t inodes c = (carries v t inodes c, bare v t inodes c)
