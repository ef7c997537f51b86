-- A table that carries a tree passes the checks of slots, twins and rings.
use Rattle.std.proofs.Common.{◌≡◌, ◌≢◌, ℕ, zero, suc, ◌<◌, ◌≤◌, List, [], refl, sym, ap, ◌∙◌, inl, inr, arith}
use Rattle.std.specs.Prelude.{Bool, true, false, cond, not, ◌&&◌, ◌||◌, ◌==◌, nat_le, nat_lt, is_some, Option, Some, None, option_map}
use Rattle.std.specs.FinMap.{get}
use Rattle.std.specs.Str.{bytes_eq}
use Rattle.std.proofs.lemmas.Bool.{cases_eq, cases_Bool, and_parts, and_from, and_left, and_right, or_from, eq-eqb, eqb-true, ne_eqb, le-leb, leb-true, lt-ltb, not_from_true, not_from_false, false_from_ne_true}
use Rattle.std.proofs.lemmas.Option.{none-some, same_Some}
use Rattle.std.proofs.lemmas.Slice.Eq.{bytes_eq-Decides}
use Rattle.flat_dirs.specs.declared.slot.Slot.{Slot}
use Rattle.flat_dirs.specs.Slots.{is_slot_at}
use Rattle.tree_model.specs.declared.rows.Row.{Row}
use Rattle.tree_model.specs.Rows.{Rows, is_dir, spot, place, kind, place_of, kind_of, parent_in, parent_of, up, IsEntry, IsTree}
use Rattle.tree_model.specs.Tests.{is_it}
use Rattle.tree_model.proofs.Chains.{up_first, up_last, root_top}
use Rattle.image_model.specs.Lowest.{NoneBelow}
use Rattle.image_model.specs.Volumes.{Table}
use Rattle.image_model.specs.Files.{is_dir_attr, is_dir_at}
use Rattle.image_model.specs.Checks.{all_built, is_entry, may_stand, is_bad_place, is_bad_slot, is_entry_at, has_lower, is_twin, parent_at, is_rooted, is_in_ring}
use Rattle.image_model.specs.Trees.{parent_given, name_given, body_given, row_by_inode, with_parent}
use Rattle.image_model.specs.Carrying.{inode_in}
use Rattle.image_model.specs.Changes.{orphan_name, slot_of}
use Rattle.image_model.proofs.Least.{lowest_none}
use Rattle.image_model.proofs.Rooted.{rooted_is_below}
use Rattle.image_model.proofs.CarriedNames.{orphans_differ}
use Rattle.image_model.proofs.CarriedTables.{HasRow, row_there, row_of_used, dir_body, dir_is_used, used_dir, CarriesIn}

-- ---- rows

map_none : (f : ℕ → ℕ) (o : Option ℕ) → option_map f o ≡ None → o ≡ None
map_none f None e = refl
map_none f (Some x) e = absurd (cc)

map_some : (f : ℕ → ℕ) (o : Option ℕ) (y : ℕ) → option_map f o ≡ Some y → (x : ℕ) × (o ≡ Some x) × (f x ≡ y)
map_some f None y e = absurd (none-some y e)
map_some f (Some x) y e = (x, refl, same_Some (f x) y e)

-- a directory has a row
pub dir_row : (o : Option Row) → kind o ≡ Some true → (r : Row) × (o ≡ Some r) × (is_dir r.body ≡ true)
dir_row None e = absurd (none-some true e)
dir_row (Some r) e = (r, refl, same_Some (is_dir r.body) true e)

-- a slot has the parent and the name that it is found by
slot_tells : (o : Option Slot) (p r : ℕ) (n k : List ℕ) → o ≡ Some (slot_of p n) → is_slot_at o r k ≡ true → (p ≡ r) × (n ≡ k)
slot_tells o p r n k is found =
    let parts = and_parts (p == r) (bytes_eq n k) (sym (ap (λ z. is_slot_at z r k) is) ∙ found) in
    (eqb-true p r parts.0, (bytes_eq-Decides n k).0 parts.1)

-- a row with a slot, whose inode is 2 or higher
record Seen (t : Table) (files : ℕ → List ℕ) (inodes : List ℕ) (s : ℕ) (q : Row) : Type 0 where
  least : 2 ≤ inode_in inodes s
  within : inode_in inodes s < t.inodes
  used : t.is_used (inode_in inodes s) ≡ true
  parent : ℕ
  name : List ℕ
  slot : t.slot (inode_in inodes s) ≡ Some (slot_of parent name)
  orphan : parent ≡ 1 → name ≡ orphan_name (inode_in inodes s)
  its_parent : option_map (inode_in inodes) q.parent ≡ cond (parent == 1) None (Some parent)
  its_name : q.name ≡ cond (parent == 1) [] name
  its_body : q.body ≡ body_given (t.attr (inode_in inodes s)) (files (inode_in inodes s))

-- a row that stands in a directory but 1
record StandsIn (rows : Rows) (inodes : List ℕ) (s : ℕ) (p : ℕ) (n : List ℕ) : Type 0 where
  dir : ℕ
  row : Row
  there : get rows dir ≡ Some row
  has_dir : is_dir row.body ≡ true
  at : inode_in inodes dir ≡ p
  entry : IsEntry rows dir n s

module _ (t : Table) (files : ℕ → List ℕ) (rows : Rows) (inodes : List ℕ) (c : CarriesIn t files rows inodes) (tree : IsTree rows) (few : t.inodes ≤ 8192) where
  its_row : (s : ℕ) (q : Row) → get rows s ≡ Some q → HasRow t files (inode_in inodes s) (with_parent (inode_in inodes) q)
  its_row s q is = row_there t files (inode_in inodes s) (with_parent (inode_in inodes) q) (c.renamed.each s q is).1

  dir_kind : (s : ℕ) (q : Row) → get rows s ≡ Some q → is_dir_attr (t.attr (inode_in inodes s)) ≡ true → kind_of rows s ≡ Some true
  dir_kind s q is dir =
      let h : HasRow t files (inode_in inodes s) (with_parent (inode_in inodes) q) = its_row s q is in
      ap kind is ∙ ap (λ b. Some b) (ap (λ (r : Row). is_dir r.body) (sym h.is) ∙ dir_body (t.attr (inode_in inodes s)) (files (inode_in inodes s)) ∙ dir)

  nowhere : (s : ℕ) (q : Row) → get rows s ≡ Some q → q.parent ≡ None → place_of rows s ≡ None
  nowhere s q is none = ap place is ∙ ap (λ o. spot o q.name) none

  -- ---- the root has inode 0

  pub root_alone : (s : ℕ) (q : Row) → get rows s ≡ Some q → inode_in inodes s ≡ 0 → s ≡ 0
  root_alone s q is at =
      let h : HasRow t files (inode_in inodes s) (with_parent (inode_in inodes) q) = its_row s q is in
      let none : q.parent ≡ None = map_none (inode_in inodes) q.parent
      (ap (λ (r : Row). r.parent) (sym h.is) ∙ ap (λ b. parent_given (cond b None (t.slot (inode_in inodes s)))) (eq-eqb (inode_in inodes s) 0 at)) in
      elim (cases_eq s 0) [
        | inl e ↦ e
        | inr ne ↦ absurd (tree.gone s ne (nowhere s q is none) (dir_kind s q is (ap (λ z. is_dir_attr (t.attr z)) at ∙ (dir_is_used t 0 c.root).1)))
      ]

  root_at : inode_in inodes 0 ≡ 0
  root_at =
      let used = (dir_is_used t 0 c.root).0 in
      let w = c.renamed.all 0 (row_by_inode t files 0) (row_of_used t files 0 used.within used.used (λ e. omega arith)) in
      ap (inode_in inodes) (sym (root_alone w.0 w.1.0 w.1.1 w.1.2)) ∙ w.1.2

  -- ---- what is known of a row

  see : (s : ℕ) (q : Row) → get rows s ≡ Some q → inode_in inodes s ≢ 0 → Seen t files inodes s q
  see s q is low =
      let i : ℕ = inode_in inodes s in
      let h : HasRow t files i (with_parent (inode_in inodes) q) = its_row s q is in
      let other : i ≢ 1 = h.other in
      let least : 2 ≤ i = omega arith in
      let n = c.named i least h.within h.used in
      let seen : cond (i == 0) None (t.slot i) ≡ Some (slot_of n.0 n.1.0) = ap (λ b. cond b None (t.slot i)) (ne_eqb i 0 low) ∙ n.1.1 in
      record {
        least = least;
        within = h.within;
        used = h.used;
        parent = n.0;
        name = n.1.0;
        slot = n.1.1;
        orphan = n.1.2;
        its_parent = ap (λ (r : Row). r.parent) (sym h.is) ∙ ap parent_given seen;
        its_name = ap (λ (r : Row). r.name) (sym h.is) ∙ ap name_given seen;
        its_body = ap (λ (r : Row). r.body) (sym h.is);
      }

  -- a used inode from 2 on has a serial
  serial_at : (i : ℕ) → i < t.inodes → is_entry t i ≡ true → (s : ℕ) × ((q : Row) × (get rows s ≡ Some q) × (inode_in inodes s ≡ i))
  serial_at i within entry =
      let parts = and_parts (nat_le 2 i) (t.is_used i) entry in
      let least : 2 ≤ i = leb-true 2 i parts.0 in
      c.renamed.all i (row_by_inode t files i) (row_of_used t files i within parts.1 (λ e. omega arith))

  stands_in : (s : ℕ) (q : Row) → get rows s ≡ Some q → (v : Seen t files inodes s q) → v.parent ≢ 1 → StandsIn rows inodes s v.parent v.name
  stands_in s q is v apart =
      let no : (v.parent == 1) ≡ false = ne_eqb v.parent 1 apart in
      let d = map_some (inode_in inodes) q.parent v.parent (v.its_parent ∙ ap (λ b. cond b None (Some v.parent)) no) in
      let name : q.name ≡ v.name = v.its_name ∙ ap (λ b. cond b [] v.name) no in
      let entry : IsEntry rows d.0 v.name s = ap place is ∙ ap (λ o. spot o q.name) d.1 ∙ ap (λ n. Some (d.0, n)) name in
      let r = dir_row (get rows d.0) (tree.parents s d.0 v.name entry) in
      record { dir = d.0; row = r.0; there = r.1; has_dir = r.2; at = d.2; entry = entry }

  orphan_parent : (s : ℕ) (q : Row) (v : Seen t files inodes s q) → v.parent ≡ 1 → q.parent ≡ None
  orphan_parent s q v one = map_none (inode_in inodes) q.parent (v.its_parent ∙ ap (λ b. cond b None (Some v.parent)) (eq-eqb v.parent 1 one))

  entry_of : (s : ℕ) (q : Row) → Seen t files inodes s q → is_entry t (inode_in inodes s) ≡ true
  entry_of s q v = and_from (nat_le 2 (inode_in inodes s)) (t.is_used (inode_in inodes s)) (le-leb 2 (inode_in inodes s) v.least) v.used

  -- ---- slots

  -- no directory stands in directory 1
  orphan_file : (s : ℕ) (q : Row) → get rows s ≡ Some q → (v : Seen t files inodes s q) → v.parent ≡ 1 → is_dir_attr (t.attr (inode_in inodes s)) ≡ false
  orphan_file s q is v one =
      let least : 2 ≤ inode_in inodes s = v.least in
      let at : inode_in inodes 0 ≡ 0 = root_at in
      let not_root : s ≢ 0 = λ e. (let z : inode_in inodes s ≡ inode_in inodes 0 = ap (inode_in inodes) e in omega arith) in
      false_from_ne_true (is_dir_attr (t.attr (inode_in inodes s))) (λ dir. tree.gone s not_root (nowhere s q is (orphan_parent s q v one)) (dir_kind s q is dir))

  dir_stands : (s p : ℕ) (n : List ℕ) → StandsIn rows inodes s p n → is_dir_at t p ≡ true
  dir_stands s p n w =
      let h : HasRow t files (inode_in inodes w.dir) (with_parent (inode_in inodes) w.row) = its_row w.dir w.row w.there in
      ap (is_dir_at t) (sym w.at)
      ∙ used_dir t (inode_in inodes w.dir) h.within h.used
      (sym (dir_body (t.attr (inode_in inodes w.dir)) (files (inode_in inodes w.dir))) ∙ ap (λ (r : Row). is_dir r.body) h.is ∙ w.has_dir)

  stands_rightly : (s : ℕ) (q : Row) → get rows s ≡ Some q → (v : Seen t files inodes s q) → may_stand all_built t (is_dir_attr (t.attr (inode_in inodes s))) v.parent ≡ true
  stands_rightly s q is v =
      let p : ℕ = v.parent in
      let dir : Bool = is_dir_attr (t.attr (inode_in inodes s)) in
      elim (cases_eq p 1) [
        | inl one ↦ and_from (is_dir_at t p) (not (p == 1 && (dir || false))) (ap (is_dir_at t) one ∙ c.orphans)
            (not_from_false (p == 1 && (dir || false)) (and_right (p == 1) (dir || false) (or_from dir false (orphan_file s q is v one) refl)))
        | inr apart ↦ and_from (is_dir_at t p) (not (p == 1 && (dir || false))) (dir_stands s p v.name (stands_in s q is v apart))
            (not_from_false (p == 1 && (dir || false)) (and_left (p == 1) (dir || false) (ne_eqb p 1 apart)))
      ]

  slot_right : (s : ℕ) (q : Row) → get rows s ≡ Some q → Seen t files inodes s q → is_bad_slot all_built t (inode_in inodes s) ≡ false
  slot_right s q is v =
      let i : ℕ = inode_in inodes s in
      and_right (is_entry t i) (is_bad_place all_built t (is_dir_attr (t.attr i)) (t.slot i))
      (ap (is_bad_place all_built t (is_dir_attr (t.attr i))) v.slot ∙ not_from_true (may_stand all_built t (is_dir_attr (t.attr i)) v.parent) (stands_rightly s q is v))

  -- ---- twins

  one_entry : (s u : ℕ) (q r : Row) → get rows s ≡ Some q → get rows u ≡ Some r → (v : Seen t files inodes s q) (w : Seen t files inodes u r)
      → w.parent ≡ v.parent → w.name ≡ v.name → inode_in inodes u ≡ inode_in inodes s
  one_entry s u q r is there v w parent name = elim (cases_eq v.parent 1) [
    | inl one ↦
        let first : inode_in inodes s < t.inodes = v.within in
        let second : inode_in inodes u < t.inodes = w.within in
        orphans_differ (inode_in inodes u) (inode_in inodes s) (omega arith) (omega arith) (sym (w.orphan (parent ∙ one)) ∙ name ∙ v.orphan one)
    | inr apart ↦
        let a : StandsIn rows inodes s v.parent v.name = stands_in s q is v apart in
        let b : StandsIn rows inodes u w.parent w.name = stands_in u r there w (λ e. apart (sym parent ∙ e)) in
        let dirs : b.dir ≡ a.dir = c.renamed.once b.dir a.dir b.row a.row b.there a.there (b.at ∙ parent ∙ sym a.at) in
        ap (inode_in inodes) (tree.unique u s a.dir v.name (b.entry ∙ λ z. Some (dirs z, name z)) a.entry)
  ]

  none_lower : (s : ℕ) (q : Row) → get rows s ≡ Some q → (v : Seen t files inodes s q) → NoneBelow (is_entry_at t v.parent v.name) (inode_in inodes s)
  none_lower s q is v k below = false_from_ne_true (is_entry_at t v.parent v.name k) (λ e.
      let within : inode_in inodes s < t.inodes = v.within in
      let parts = and_parts (is_entry t k) (is_slot_at (t.slot k) v.parent v.name) e in
      let low = and_parts (nat_le 2 k) (t.is_used k) parts.0 in
      let least : 2 ≤ k = leb-true 2 k low.0 in
      let o = serial_at k (omega arith) parts.0 in
      let at : inode_in inodes o.0 ≡ k = o.1.2 in
      let w : Seen t files inodes o.0 o.1.0 = see o.0 o.1.0 o.1.1 (λ z. omega arith) in
      let same : (w.parent ≡ v.parent) × (w.name ≡ v.name)
      = slot_tells (t.slot (inode_in inodes o.0)) w.parent v.parent w.name v.name w.slot (ap (λ z. is_slot_at (t.slot z) v.parent v.name) at ∙ parts.1) in
      let one : inode_in inodes o.0 ≡ inode_in inodes s = one_entry s o.0 q o.1.0 is o.1.1 v w same.0 same.1 in
      omega arith)

  twin_right : (s : ℕ) (q : Row) → get rows s ≡ Some q → Seen t files inodes s q → is_twin t (inode_in inodes s) ≡ false
  twin_right s q is v =
      let i : ℕ = inode_in inodes s in
      and_right (is_entry t i) (has_lower t i (t.slot i))
      (ap (has_lower t i) v.slot ∙ ap (λ o. is_some o) (lowest_none (is_entry_at t v.parent v.name) i (none_lower s q is v)))

  -- ---- rings

  parent_is : (s : ℕ) (q : Row) (v : Seen t files inodes s q) → parent_at t (inode_in inodes s) ≡ Some v.parent
  parent_is s q v =
      let i : ℕ = inode_in inodes s in
      ap (λ b. cond b (option_map (λ z. z.parent) (t.slot i)) None) (and_from (is_entry t i) (nat_lt i t.inodes) (entry_of s q v) (lt-ltb i t.inodes v.within))
      ∙ ap (λ (o : Option Slot). option_map (λ z. z.parent) o) v.slot

  -- a chain of rows that comes to the root is a chain of inodes
  climbs : (k s : ℕ) (q : Row) → get rows s ≡ Some q → up (parent_of rows) k s ≡ Some 0 → up (parent_at t) k (inode_in inodes s) ≡ Some 0
  climbs zero s q is e = ap (λ z. Some (inode_in inodes z)) (same_Some s 0 e) ∙ ap (λ z. Some z) root_at
  climbs (suc k) s q is e = elim (cases_eq (inode_in inodes s) 0) [
    | inl at ↦ absurd (none-some 0 (sym (up_last (parent_of rows) k s (ap (parent_of rows) (root_alone s q is at) ∙ root_top rows tree)) ∙ e))
    | inr low ↦
        let v : Seen t files inodes s q = see s q is low in
        elim (cases_eq v.parent 1) [
          | inl one ↦ absurd (none-some 0 (sym (up_last (parent_of rows) k s (ap parent_in (nowhere s q is (orphan_parent s q v one)))) ∙ e))
          | inr apart ↦
              let w : StandsIn rows inodes s v.parent v.name = stands_in s q is v apart in
              up_first (parent_at t) k (inode_in inodes s) (inode_in inodes w.dir) (parent_is s q v ∙ ap (λ z. Some z) (sym w.at))
              ∙ climbs k w.dir w.row w.there (sym (up_first (parent_of rows) k s w.dir (ap parent_in w.entry)) ∙ e)
        ]
  ]

  ring_right : (s : ℕ) (q : Row) → get rows s ≡ Some q → Seen t files inodes s q → is_in_ring t (inode_in inodes s) ≡ false
  ring_right s q is v =
      let i : ℕ = inode_in inodes s in
      and_right (is_entry t i) (not (is_it (parent_at t i) 1) && not (is_rooted t i)) (elim (cases_eq v.parent 1) [
        | inl one ↦ and_left (not (is_it (parent_at t i) 1)) (not (is_rooted t i))
            (not_from_true (is_it (parent_at t i) 1) (ap (λ o. is_it o 1) (parent_is s q v) ∙ eq-eqb v.parent 1 one))
        | inr apart ↦
            let w : StandsIn rows inodes s v.parent v.name = stands_in s q is v apart in
            let chain = tree.rooted s w.dir v.name w.entry in
            and_right (not (is_it (parent_at t i) 1)) (not (is_rooted t i))
            (not_from_true (is_rooted t i) ((rooted_is_below t i (dir_is_used t 0 c.root).0.within).1 (chain.0, climbs chain.0 s q is chain.1)))
      ])

  -- ---- all inodes

  -- what holds of each inode of a row from 2 on holds of each used inode from 2 on
  of_entries : (bad : ℕ → Bool) → ((s : ℕ) (q : Row) → get rows s ≡ Some q → Seen t files inodes s q → bad (inode_in inodes s) ≡ false)
      → (i : ℕ) → i < t.inodes → is_entry t i ≡ true → bad i ≡ false
  of_entries bad right i within entry =
      let o = serial_at i within entry in
      let at : inode_in inodes o.0 ≡ i = o.1.2 in
      let parts = and_parts (nat_le 2 i) (t.is_used i) entry in
      let least : 2 ≤ i = leb-true 2 i parts.0 in
      ap bad (sym at) ∙ right o.0 o.1.0 o.1.1 (see o.0 o.1.0 o.1.1 (λ z. omega arith))

  pub slots_pass : NoneBelow (is_bad_slot all_built t) t.inodes
  slots_pass i within = elim (cases_Bool (is_entry t i)) [
    | inl entry ↦ of_entries (is_bad_slot all_built t) slot_right i within entry
    | inr none ↦ and_left (is_entry t i) (is_bad_place all_built t (is_dir_attr (t.attr i)) (t.slot i)) none
  ]

  pub twins_pass : NoneBelow (is_twin t) t.inodes
  twins_pass i within = elim (cases_Bool (is_entry t i)) [
    | inl entry ↦ of_entries (is_twin t) twin_right i within entry
    | inr none ↦ and_left (is_entry t i) (has_lower t i (t.slot i)) none
  ]

  pub rings_pass : NoneBelow (is_in_ring t) t.inodes
  rings_pass i within = elim (cases_Bool (is_entry t i)) [
    | inl entry ↦ of_entries (is_in_ring t) ring_right i within entry
    | inr none ↦ and_left (is_entry t i) (not (is_it (parent_at t i) 1) && not (is_rooted t i)) none
  ]
