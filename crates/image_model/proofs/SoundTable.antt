-- The rows of a table whose inodes pass their checks are a tree.
use Rattle.std.proofs.Common.{◌≡◌, ℕ, zero, suc, ◌<◌, ◌≤◌, ◌≢◌, List, [], refl, sym, ap, subst, ◌∙◌, inl, inr, arith}
use Rattle.std.specs.Prelude.{Bool, true, false, cond, not, ◌&&◌, ◌||◌, ◌==◌, nat_lt, nat_le, is_some, Option, Some, None, option_map, MatchOption}
use Rattle.std.specs.Str.{bytes_eq}
use Rattle.std.specs.FinMap.{get}
use Rattle.std.proofs.lemmas.Bool.{and_parts, and_from, cases_Bool, cases_lt, cases_eq, both_ways, not-true, not-false, not_from_false, lt-ltb, ltb-true, le-leb, leb-true, eq-eqb, ne_eqb, eqb-false}
use Rattle.std.proofs.lemmas.Option.{same_Some, some_pair_parts}
use Rattle.std.proofs.lemmas.Slice.Eq.{bytes_eq-Decides}
use Rattle.inode_table.specs.declared.attrs.Kind.{Kind}
use Rattle.inode_table.specs.declared.attrs.Kind.TheVariants as kinds
use Rattle.inode_table.specs.declared.attrs.Attr.{Attr}
use Rattle.flat_dirs.specs.declared.slot.Slot.{Slot}
use Rattle.flat_dirs.specs.Slots.{is_slot_at}
use Rattle.tree_model.specs.declared.rows.Body.{Body}
use Rattle.tree_model.specs.declared.rows.Body.TheVariants.{Dir}
use Rattle.tree_model.specs.Rows.{Rows, spot, place, place_of, is_dir, kind, kind_of, parent_in, parent_of, up, IsDir, IsEntry, IsTree}
use Rattle.tree_model.specs.Tests.{is_it}
use Rattle.tree_model.proofs.Chains.{up_first, up_last}
use Rattle.image_model.specs.Volumes.{Table}
use Rattle.image_model.specs.Files.{is_dir_kind, is_dir_attr, is_dir_at}
use Rattle.image_model.specs.Lowest.{lowest, NoneBelow, IsLowest}
use Rattle.image_model.specs.Checks.{all_built, is_entry, may_stand, is_bad_place, is_bad_slot, is_entry_at, has_lower, is_twin, parent_at, is_rooted, is_in_ring}
use Rattle.image_model.specs.Trees.{has_row, slot_seen, parent_given, name_given, body_of_kind, body_given, row_by_inode, row_at, by_inodes}
use Rattle.image_model.proofs.Least.{lowest_is_lowest}
use Rattle.image_model.proofs.RowsBelow.{rows_are_those}
use Rattle.image_model.proofs.Rooted.{rooted_is_below}

-- no inode fails a check that is made of each inode by itself, and both roots are there
pub record IsSoundTable (t : Table) : Type 0 where
  pub root : is_dir_at t 0 ≡ true
  pub orphans : is_dir_at t 1 ≡ true
  pub slots : NoneBelow (is_bad_slot all_built t) t.inodes
  pub twins : NoneBelow (is_twin t) t.inodes
  pub rings : NoneBelow (is_in_ring t) t.inodes

-- ---- kinds

dir_body : (a : Option Attr) (bytes : List ℕ) → is_dir_attr a ≡ true → (changes : ℕ) × (body_given a bytes ≡ Dir changes)
dir_body None bytes e = absurd (cc)
dir_body (Some a) bytes e = elim (a.kind) as (λ (k : Kind). is_dir_kind k ≡ true → (changes : ℕ) × (body_of_kind k a.changes bytes ≡ Dir changes)) [
  | kinds.Dir ↦ λ h. (a.changes, refl)
  | kinds.File ↦ λ h. absurd (cc)
] e

body_dir : (a : Option Attr) (bytes : List ℕ) → is_dir (body_given a bytes) ≡ true → is_dir_attr a ≡ true
body_dir None bytes e = e
body_dir (Some a) bytes e = elim (a.kind) as (λ (k : Kind). is_dir (body_of_kind k a.changes bytes) ≡ true → is_dir_kind k ≡ true) [
  | kinds.Dir ↦ λ h. refl
  | kinds.File ↦ λ h. h
] e

-- ---- lists of lowest numbers

-- a test that a lower number passes finds one
found_lower : (test : ℕ → Bool) (n m : ℕ) → m < n → test m ≡ true → (o : Option ℕ) → MatchOption o (NoneBelow test n) (IsLowest test n) → is_some o ≡ true
found_lower test n m within passes None none = absurd (let z : true ≡ false = sym passes ∙ none m within in cc)
found_lower test n m within passes (Some i) lowest_is = refl

-- a test of two parts that fails, where the first part passes
second_fails : (a b : Bool) → a ≡ true → (a && b) ≡ false → b ≡ false
second_fails true b p e = e
second_fails false b p e = absurd (cc)

-- ---- slots

slot_told : (o : Option Slot) (z : ℕ) → option_map (λ (s : Slot). s.parent) o ≡ Some z → (s : Slot) × ((o ≡ Some s) × (s.parent ≡ z))
slot_told None z e = absurd (cc)
slot_told (Some s) z e = (s, (refl, same_Some s.parent z e))

-- what a place says of the slot that gives it
slot_placed : (o : Option Slot) (d : ℕ) (n : List ℕ) → spot (parent_given o) (name_given o) ≡ Some (d, n) → (s : Slot) × ((o ≡ Some s) × (s.parent ≡ d) × (s.name ≡ n) × (d ≢ 1))
slot_placed None d n e = absurd (cc)
slot_placed (Some s) d n e = elim (s.parent == 1) as (λ b. s.parent == 1 ≡ b → spot (cond b None (Some s.parent)) (cond b [] s.name) ≡ Some (d, n)
    → (r : Slot) × ((Some s ≡ Some r) × (r.parent ≡ d) × (r.name ≡ n) × (d ≢ 1))) [
      | true ↦ λ p q. absurd (cc)
      | false ↦ λ p q.
          let parts = some_pair_parts s.parent d s.name n q in
          (s, (refl, parts.0, parts.1, λ one. eqb-false s.parent 1 p (parts.0 ∙ one)))
    ] refl e

placed_slot : (o : Option Slot) (s : Slot) → o ≡ Some s → s.parent ≢ 1 → spot (parent_given o) (name_given o) ≡ Some (s.parent, s.name)
placed_slot o s e ne = ap (λ z. spot (parent_given z) (name_given z)) e ∙ ap (λ b. spot (cond b None (Some s.parent)) (cond b [] s.name)) (ne_eqb s.parent 1 ne)

-- a slot that gives no place is in the orphan directory
unplaced_slot : (o : Option Slot) (s : Slot) → o ≡ Some s → spot (parent_given o) (name_given o) ≡ None → s.parent == 1 ≡ true
unplaced_slot o s e none = elim (cases_Bool (s.parent == 1)) [
  | inl yes_ ↦ yes_
  | inr no_ ↦ absurd (let z : ◌≡◌ {A = Option (ℕ × List ℕ)} None (Some (s.parent, s.name)) = sym none ∙ placed_slot o s e (eqb-false s.parent 1 no_) in cc)
]

good_place : (t : Table) (dir : Bool) (o : Option Slot) → is_bad_place all_built t dir o ≡ false → (s : Slot) × ((o ≡ Some s) × (may_stand all_built t dir s.parent ≡ true))
good_place t dir None e = absurd (cc)
good_place t dir (Some s) e = (s, (refl, not-false (may_stand all_built t dir s.parent) e))

-- only a file stands in the orphan directory
orphan_file : (orphan dir : Bool) → orphan ≡ true → not (orphan && (dir || false)) ≡ true → dir ≡ false
orphan_file true true p e = absurd (let z : false ≡ true = e in cc)
orphan_file true false p e = refl
orphan_file false dir p e = absurd (cc)

module _ (t : Table) (files : ℕ → List ℕ) (sound : IsSoundTable t) where
  abbrev rows : Rows
  rows = by_inodes t files

  -- ---- the row of each inode

  pub got : (x : ℕ) → get rows x ≡ row_at t files x
  got x = rows_are_those (row_at t files) t.inodes x ∙ elim (nat_lt x t.inodes) as (λ b. cond b (cond (b && (t.is_used x && not (x == 1))) (Some (row_by_inode t files x)) None) None
      ≡ cond (b && (t.is_used x && not (x == 1))) (Some (row_by_inode t files x)) None) [ true ↦ refl | false ↦ refl ]

  pub got_row : (x : ℕ) → has_row t x ≡ true → get rows x ≡ Some (row_by_inode t files x)
  got_row x e = got x ∙ ap (λ b. cond b (Some (row_by_inode t files x)) None) e

  pub got_none : (x : ℕ) → has_row t x ≡ false → get rows x ≡ None
  got_none x e = got x ∙ ap (λ b. cond b (Some (row_by_inode t files x)) None) e

  pub row_there : (x : ℕ) → is_some (get rows x) ≡ has_row t x
  row_there x = elim (cases_Bool (has_row t x)) [
    | inl yes_ ↦ ap (λ o. is_some o) (got_row x yes_) ∙ sym yes_
    | inr no_ ↦ ap (λ o. is_some o) (got_none x no_) ∙ sym no_
  ]

  -- a row that is there: what is known of its inode
  within : (x : ℕ) → has_row t x ≡ true → x < t.inodes
  within x e = ltb-true x t.inodes (and_parts (nat_lt x t.inodes) (t.is_used x && not (x == 1)) e).0

  used : (x : ℕ) → has_row t x ≡ true → (t.is_used x ≡ true) × (x ≢ 1)
  used x e =
      let parts = and_parts (t.is_used x) (not (x == 1)) (and_parts (nat_lt x t.inodes) (t.is_used x && not (x == 1)) e).1 in
      (parts.0, eqb-false x 1 (not-true (x == 1) parts.1))

  pub entry_here : (x : ℕ) → has_row t x ≡ true → x ≢ 0 → is_entry t x ≡ true
  entry_here x e ne =
      let u = used x e in
      let other : x ≢ 1 = u.1 in
      and_from (nat_le 2 x) (t.is_used x) (le-leb 2 x (elim (cases_lt x 2) [ inl less ↦ absurd (elim (cases_eq x 0) [ inl z ↦ ne z | inr nz ↦ other (omega arith) ]) | inr more ↦ more ])) u.0

  row_from_dir : (d : ℕ) → is_dir_at t d ≡ true → d ≢ 1 → (has_row t d ≡ true) × (is_dir_attr (t.attr d) ≡ true)
  row_from_dir d e ne =
      let outer = and_parts (nat_lt d t.inodes) (t.is_used d && is_dir_attr (t.attr d)) e in
      let inner = and_parts (t.is_used d) (is_dir_attr (t.attr d)) outer.1 in (
        and_from (nat_lt d t.inodes) (t.is_used d && not (d == 1)) outer.0 (and_from (t.is_used d) (not (d == 1)) inner.0 (not_from_false (d == 1) (ne_eqb d 1 ne))),
        inner.1,
      )

  seen : (x : ℕ) → x ≢ 0 → slot_seen t x ≡ t.slot x
  seen x ne = ap (λ b. cond b None (t.slot x)) (ne_eqb x 0 ne)

  -- its slot is a good one
  slot_here : (x : ℕ) → has_row t x ≡ true → x ≢ 0 → (s : Slot) × ((t.slot x ≡ Some s) × (may_stand all_built t (is_dir_attr (t.attr x)) s.parent ≡ true))
  slot_here x e ne = good_place t (is_dir_attr (t.attr x)) (t.slot x)
      (second_fails (is_entry t x) (is_bad_place all_built t (is_dir_attr (t.attr x)) (t.slot x)) (entry_here x e ne) (sound.slots x (within x e)))

  -- ---- entries

  -- a row that stands in a directory
  record Stands (x d : ℕ) (n : List ℕ) : Type 0 where
    there : has_row t x ≡ true
    other : x ≢ 0
    slot : Slot
    slot_is : t.slot x ≡ Some slot
    parent : slot.parent ≡ d
    name : slot.name ≡ n
    apart : d ≢ 1
    dir : is_dir_at t d ≡ true

  spotted : (x : ℕ) → has_row t x ≡ true → place_of rows x ≡ spot (parent_given (slot_seen t x)) (name_given (slot_seen t x))
  spotted x e = ap place (got_row x e)

  stands_there : (x d : ℕ) (n : List ℕ) → IsEntry rows d n x → has_row t x ≡ true → Stands x d n
  stands_there x d n e there = elim (cases_eq x 0) [
    | inl root ↦ absurd (
        let none : slot_seen t x ≡ None = ap (λ b. cond b None (t.slot x)) (eq-eqb x 0 root) in
        let z : ◌≡◌ {A = Option (ℕ × List ℕ)} None (Some (d, n)) = sym (spotted x there ∙ ap (λ o. spot (parent_given o) (name_given o)) none) ∙ e in cc)
    | inr other ↦
        let w = slot_placed (slot_seen t x) d n (sym (spotted x there) ∙ e) in
        let s : Slot = w.0 in
        let is : t.slot x ≡ Some s = sym (seen x other) ∙ w.1.0 in
        let g = slot_here x there other in
        let same : g.0.parent ≡ d = ap (λ (z : Slot). z.parent) (same_Some g.0 s (sym g.1.0 ∙ is)) ∙ w.1.1 in
        record {
          there = there;
          other = other;
          slot = s;
          slot_is = is;
          parent = w.1.1;
          name = w.1.2;
          apart = w.1.3;
          dir = subst (λ z. is_dir_at t z ≡ true) same (and_parts (is_dir_at t g.0.parent) (not (g.0.parent == 1 && (is_dir_attr (t.attr x) || false))) g.1.1).0;
        }
  ]

  stands : (x d : ℕ) (n : List ℕ) → IsEntry rows d n x → Stands x d n
  stands x d n e = elim (cases_Bool (has_row t x)) [
    | inl there ↦ stands_there x d n e there
    | inr none ↦ absurd (let z : ◌≡◌ {A = Option (ℕ × List ℕ)} None (Some (d, n)) = sym (ap place (got_none x none)) ∙ e in cc)
  ]

  dir_row : (d : ℕ) → is_dir_at t d ≡ true → d ≢ 1 → IsDir rows d
  dir_row d e ne =
      let r = row_from_dir d e ne in
      let b = dir_body (t.attr d) (files d) r.1 in
      ap kind (got_row d r.0) ∙ ap (λ (z : Body). Some (is_dir z)) b.1

  parents : (x d : ℕ) (n : List ℕ) → IsEntry rows d n x → IsDir rows d
  parents x d n e = let s = stands x d n e in dir_row d s.dir s.apart

  -- ---- no twins

  not_lower : (x y d : ℕ) (n : List ℕ) → Stands x d n → Stands y d n → x < y → ⊥
  not_lower x y d n a b less =
      let test : ℕ → Bool = is_entry_at t b.slot.parent b.slot.name in
      let fits : is_slot_at (t.slot x) b.slot.parent b.slot.name ≡ true = ap (λ o. is_slot_at o b.slot.parent b.slot.name) a.slot_is
      ∙ and_from (a.slot.parent == b.slot.parent) (bytes_eq a.slot.name b.slot.name) (eq-eqb a.slot.parent b.slot.parent (a.parent ∙ sym b.parent)) ((bytes_eq-Decides a.slot.name b.slot.name).1 (a.name ∙ sym b.name)) in
      let passes : test x ≡ true = and_from (is_entry t x) (is_slot_at (t.slot x) b.slot.parent b.slot.name) (entry_here x a.there a.other) fits in
      let lower : has_lower t y (t.slot y) ≡ true = ap (has_lower t y) b.slot_is ∙ found_lower test y x less passes (lowest test y) (lowest_is_lowest test y) in
      both_ways (is_twin t y) (sound.twins y (within y b.there)) (and_from (is_entry t y) (has_lower t y (t.slot y)) (entry_here y b.there b.other) lower)

  unique : (x y d : ℕ) (n : List ℕ) → IsEntry rows d n x → IsEntry rows d n y → x ≡ y
  unique x y d n e f =
      let a = stands x d n e in
      let b = stands y d n f in
      elim (cases_eq x y) [
        | inl same ↦ same
        | inr other ↦ elim (cases_lt x y) [
          | inl less ↦ absurd (not_lower x y d n a b less)
          | inr more ↦ absurd (not_lower y x d n b a (omega arith))
        ]
      ]

  -- ---- chains of parents

  parent_slot : (y z : ℕ) → parent_at t y ≡ Some z → (is_entry t y ≡ true) × ((y < t.inodes) × (option_map (λ (s : Slot). s.parent) (t.slot y) ≡ Some z))
  parent_slot y z e = elim (cases_Bool (is_entry t y && nat_lt y t.inodes)) [
    | inl yes_ ↦ (let parts = and_parts (is_entry t y) (nat_lt y t.inodes) yes_ in
        (parts.0, (ltb-true y t.inodes parts.1, sym (ap (λ b. cond b (option_map (λ (s : Slot). s.parent) (t.slot y)) None) yes_) ∙ e)))
    | inr no_ ↦ absurd (let q : ◌≡◌ {A = Option ℕ} None (Some z) = sym (ap (λ b. cond b (option_map (λ (s : Slot). s.parent) (t.slot y)) None) no_) ∙ e in cc)
  ]

  no_orphan_root : (k : ℕ) → up (parent_at t) k 1 ≡ Some 0 → ⊥
  no_orphan_root zero e = (let q : ◌≡◌ {A = ℕ} 1 0 = same_Some 1 0 e in omega arith)
  no_orphan_root (suc k) e = (let q : ◌≡◌ {A = Option ℕ} None (Some 0) = sym (up_last (parent_at t) k 1 refl) ∙ e in cc)

  parent_same : (y z : ℕ) → has_row t y ≡ true → parent_at t y ≡ Some z → z ≢ 1 → (parent_of rows y ≡ Some z) × (is_dir_at t z ≡ true)
  parent_same y z there e ne =
      let p = parent_slot y z e in
      let two : 2 ≤ y = leb-true 2 y (and_parts (nat_le 2 y) (t.is_used y) p.0).0 in
      let other : y ≢ 0 = (λ q. omega arith) in
      let w = slot_told (t.slot y) z p.1.1 in
      let apart : w.0.parent ≢ 1 = (λ q. ne (sym w.1.1 ∙ q)) in
      let placed : place_of rows y ≡ Some (w.0.parent, w.0.name) = spotted y there ∙ placed_slot (slot_seen t y) w.0 (seen y other ∙ w.1.0) apart in
      let s = stands y w.0.parent w.0.name placed in
      (ap parent_in placed ∙ ap (λ q. Some q) w.1.1, subst (λ q. is_dir_at t q ≡ true) w.1.1 s.dir)

  climbs : (k y : ℕ) → has_row t y ≡ true → up (parent_at t) k y ≡ Some 0 → up (parent_of rows) k y ≡ Some 0
  climbs zero y there p = p
  climbs (suc k) y there p = elim (parent_at t y) as (λ o. parent_at t y ≡ o → up (parent_of rows) (suc k) y ≡ Some 0) [
    | None ↦ λ e. absurd (let q : ◌≡◌ {A = Option ℕ} None (Some 0) = sym (up_last (parent_at t) k y e) ∙ p in cc)
    | Some z ↦ λ e. elim (cases_eq z 1) [
      | inl one ↦ absurd (no_orphan_root k (ap (up (parent_at t) k) (sym one) ∙ sym (up_first (parent_at t) k y z e) ∙ p))
      | inr other ↦
          let s = parent_same y z there e other in
          up_first (parent_of rows) k y z s.0 ∙ climbs k z (row_from_dir z s.1 other).0 (sym (up_first (parent_at t) k y z e) ∙ p)
    ]
  ] refl

  root_within : 0 < t.inodes
  root_within = ltb-true 0 t.inodes (and_parts (nat_lt 0 t.inodes) (t.is_used 0 && is_dir_attr (t.attr 0)) sound.root).0

  rooted : (x d : ℕ) (n : List ℕ) → IsEntry rows d n x → (depth : ℕ) × (up (parent_of rows) depth x ≡ Some 0)
  rooted x d n e =
      let s = stands x d n e in
      let entry : is_entry t x ≡ true = entry_here x s.there s.other in
      let above : parent_at t x ≡ Some d =
      ap (λ b. cond b (option_map (λ (z : Slot). z.parent) (t.slot x)) None) (and_from (is_entry t x) (nat_lt x t.inodes) entry (lt-ltb x t.inodes (within x s.there)))
      ∙ ap (λ o. option_map (λ (z : Slot). z.parent) o) s.slot_is ∙ ap (λ z. Some z) s.parent in
      let not_orphan : not (is_it (parent_at t x) 1) ≡ true = not_from_false (is_it (parent_at t x) 1) (ap (λ o. is_it o 1) above ∙ ne_eqb d 1 s.apart) in
      let no_ring : (not (is_it (parent_at t x) 1) && not (is_rooted t x)) ≡ false =
      second_fails (is_entry t x) (not (is_it (parent_at t x) 1) && not (is_rooted t x)) entry (sound.rings x (within x s.there)) in
      let is_below : is_rooted t x ≡ true = not-false (is_rooted t x) (second_fails (not (is_it (parent_at t x) 1)) (not (is_rooted t x)) not_orphan no_ring) in
      let steps = (rooted_is_below t x root_within).0 is_below in
      (steps.0, climbs steps.0 x s.there steps.1)

  -- ---- the root, and what stands nowhere

  root_row : (changes : ℕ) × (get rows 0 ≡ Some (record { parent = None; name = []; body = Dir changes }))
  root_row =
      let r = row_from_dir 0 sound.root (λ e. omega arith) in
      let b = dir_body (t.attr 0) (files 0) r.1 in
      (b.0, got_row 0 r.0 ∙ ap (λ (z : Body). Some (record { parent = None; name = []; body = z })) b.1)

  gone_file : (x : ℕ) → x ≢ 0 → place_of rows x ≡ None → kind_of rows x ≢ Some true
  gone_file x ne none k = elim (cases_Bool (has_row t x)) [
    | inl there ↦
        let g = slot_here x there ne in
        let orphan : g.0.parent == 1 ≡ true = unplaced_slot (slot_seen t x) g.0 (seen x ne ∙ g.1.0) (sym (spotted x there) ∙ none) in
        let file : is_dir_attr (t.attr x) ≡ false = orphan_file (g.0.parent == 1) (is_dir_attr (t.attr x)) orphan
        (and_parts (is_dir_at t g.0.parent) (not (g.0.parent == 1 && (is_dir_attr (t.attr x) || false))) g.1.1).1 in
        let dir : is_dir (body_given (t.attr x) (files x)) ≡ true = same_Some (is_dir (body_given (t.attr x) (files x))) true (sym (ap kind (got_row x there)) ∙ k) in
        both_ways (is_dir_attr (t.attr x)) file (body_dir (t.attr x) (files x) dir)
    | inr no_ ↦ (let z : ◌≡◌ {A = Option Bool} None (Some true) = sym (ap kind (got_none x no_)) ∙ k in cc)
  ]

  -- a row that stands nowhere has its slot in the orphan directory
  pub no_place : (x : ℕ) → has_row t x ≡ true → x ≢ 0 → place_of rows x ≡ None → is_it (parent_at t x) 1 ≡ true
  no_place x there ne none =
      let g = slot_here x there ne in
      let orphan : g.0.parent == 1 ≡ true = unplaced_slot (slot_seen t x) g.0 (seen x ne ∙ g.1.0) (sym (spotted x there) ∙ none) in
      ap (λ b. is_it (cond b (option_map (λ (z : Slot). z.parent) (t.slot x)) None) 1)
      (and_from (is_entry t x) (nat_lt x t.inodes) (entry_here x there ne) (lt-ltb x t.inodes (within x there)))
      ∙ ap (λ o. is_it (option_map (λ (z : Slot). z.parent) o) 1) g.1.0 ∙ orphan

  pub inodes_tree : IsTree rows
  inodes_tree = record { root = root_row; parents = parents; unique = unique; rooted = rooted; gone = gone_file }
