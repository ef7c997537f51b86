-- The entries of a directory, as the index of the slots lists them and as the rows of the table tell them.
use Rattle.std.proofs.Common.{◌≡◌, ℕ, ◌≤◌, ◌≢◌, List, [], ◌∷◌, refl, sym, ap, ◌∙◌, inl, inr, arith}
use Rattle.std.proofs.Math.Path.{ap₂}
use Rattle.std.specs.Prelude.{Bool, true, false, cond, not, ◌&&◌, ◌||◌, ◌==◌, nat_lt, nat_le, Option, Some, None, option_map, map}
use Rattle.std.specs.List.{list_any}
use Rattle.std.specs.Str.{bytes_eq}
use Rattle.std.specs.FinMap.{get, values, same_map}
use Rattle.std.proofs.lemmas.Bool.{and_parts, and_from, or_right, both_ways, cases_Bool, cases_eq, cases_lt, eq-eqb, ne_eqb, eqb-true, ltb-true, le-leb, leb-true}
use Rattle.std.proofs.lemmas.Cmp.{nat_list_cmp_total}
use Rattle.std.proofs.lemmas.Option.{some_pair_parts}
use Rattle.std.proofs.lemmas.Slice.Eq.{bytes_eq-Decides}
use Rattle.flat_dirs.specs.declared.slot.Slot.{Slot}
use Rattle.flat_dirs.specs.Slots.{SlotMap, is_slot_at, is_in, IsLeast, entries_in, directory, AreApart}
use Rattle.flat_dirs.proofs.Scan.{least_by_scan}
use Rattle.flat_dirs.proofs.Directory.{found_in_directory, listed_in_directory}
use Rattle.flat_dirs.proofs.Listed.{listed_just}
use Rattle.tree_model.specs.Rows.{Rows, spot, place, place_of, parent_in, parent_of, IsEntry, IsTree}
use Rattle.tree_model.specs.Entries.{children, entries_of, entry}
use Rattle.tree_model.specs.Tests.{is_it}
use Rattle.tree_model.proofs.MapView.{bytes_same}
use Rattle.tree_model.proofs.Found.{entry_stands, vacant_none}
use Rattle.image_model.specs.Volumes.{Table}
use Rattle.image_model.specs.Files.{is_file_attr, length_told}
use Rattle.image_model.specs.Checks.{is_entry, parent_at, is_not_bare, IsBare}
use Rattle.image_model.specs.Trees.{has_row, slot_seen, parent_given, name_given, row_by_inode, row_at, by_inodes}
use Rattle.image_model.proofs.PreorderLists.{In}
use Rattle.image_model.proofs.SoundTable.{IsSoundTable, got, inodes_tree}
use Rattle.image_check.specs.Tables.{slot_kept, AreSlots}

-- ---- where a row stands, by the slot that is kept

-- where a slot places a row
abbrev pub placed_by : Option Slot → Option (ℕ × List ℕ)
placed_by o = spot (parent_given o) (name_given o)

chosen_slot : (b : Bool) (o : Option Slot) → placed_by (cond b o None) ≡ cond b (placed_by o) None
chosen_slot true o = refl
chosen_slot false o = refl

swapped : {X : Type 0} (within used : Bool) (x : Option X) → cond (within && (used && true)) x None ≡ cond (used && within) x None
swapped true true x = refl
swapped true false x = refl
swapped false true x = refl
swapped false false x = refl

not_one : {X : Type 0} (within used : Bool) (x : Option X) → cond (within && (used && false)) x None ≡ None
not_one true true x = refl
not_one true false x = refl
not_one false true x = refl
not_one false false x = refl

no_place : (b : Bool) → cond b (placed_by None) None ≡ None
no_place true = refl
no_place false = refl

module _ (t : Table) (files : ℕ → List ℕ) where
  place_chosen : (b : Bool) (i : ℕ) → place (cond b (Some (row_by_inode t files i)) None) ≡ cond b (placed_by (slot_seen t i)) None
  place_chosen true i = refl
  place_chosen false i = refl

  -- by the tests of an inode: that it is 2 or more, 1, and 0
  by_tests : (low one root : Bool) (i : ℕ) → nat_le 2 i ≡ low → i == 1 ≡ one → i == 0 ≡ root → place (row_at t files i)
      ≡ cond (nat_lt i t.inodes && (t.is_used i && not one)) (placed_by (cond root None (t.slot i))) None
  by_tests low one root i l o r =
      place_chosen (has_row t i) i
      ∙ ap₂ (λ b c. cond (nat_lt i t.inodes && (t.is_used i && not b)) (placed_by (cond c None (t.slot i))) None) o r

  kept_tests : (low : Bool) (i : ℕ) → nat_le 2 i ≡ low → placed_by (slot_kept t i) ≡ cond ((low && t.is_used i) && nat_lt i t.inodes) (placed_by (t.slot i)) None
  kept_tests low i l = chosen_slot (is_entry t i && nat_lt i t.inodes) (t.slot i) ∙ ap (λ b. cond ((b && t.is_used i) && nat_lt i t.inodes) (placed_by (t.slot i)) None) l

  pub placed_kept : (i : ℕ) → place (row_at t files i) ≡ placed_by (slot_kept t i)
  placed_kept i = elim (cases_lt i 2) [
    | inl small ↦ elim (cases_eq i 0) [
      | inl root ↦
          let low : nat_le 2 i ≡ false = elim (cases_Bool (nat_le 2 i)) [ inl y ↦ absurd (let z : 2 ≤ i = leb-true 2 i y in omega arith) | inr n ↦ n ] in
          by_tests false false true i low (ne_eqb i 1 (λ e. omega arith)) (eq-eqb i 0 root)
          ∙ no_place (nat_lt i t.inodes && (t.is_used i && true)) ∙ sym (kept_tests false i low)
      | inr other ↦
          let low : nat_le 2 i ≡ false = elim (cases_Bool (nat_le 2 i)) [ inl y ↦ absurd (let z : 2 ≤ i = leb-true 2 i y in omega arith) | inr n ↦ n ] in
          by_tests false true false i low (eq-eqb i 1 (omega arith)) (ne_eqb i 0 other)
          ∙ not_one (nat_lt i t.inodes) (t.is_used i) (placed_by (t.slot i)) ∙ sym (kept_tests false i low)
    ]
    | inr large ↦
        let low : nat_le 2 i ≡ true = le-leb 2 i large in
        by_tests true false false i low (ne_eqb i 1 (λ e. omega arith)) (ne_eqb i 0 (λ e. omega arith))
        ∙ swapped (nat_lt i t.inodes) (t.is_used i) (placed_by (t.slot i)) ∙ sym (kept_tests true i low)
  ]

-- ---- no slot is in the orphan directory

chosen_parent : (b : Bool) (o : Option Slot) → cond b (option_map (λ (s : Slot). s.parent) o) None ≡ option_map (λ (s : Slot). s.parent) (cond b o None)
chosen_parent true o = refl
chosen_parent false o = refl

pub kept_there : (b : Bool) (o : Option Slot) (s : Slot) → cond b o None ≡ Some s → (b ≡ true) × (o ≡ Some s)
kept_there true o s e = (refl, e)
kept_there false o s e = absurd (cc)

pub not_orphan : (t : Table) → IsBare t → (i : ℕ) (s : Slot) → slot_kept t i ≡ Some s → s.parent ≢ 1
not_orphan t bare i s e one =
    let parts = and_parts (is_entry t i) (nat_lt i t.inodes) (kept_there (is_entry t i && nat_lt i t.inodes) (t.slot i) s e).0 in
    let bytes : Bool = is_file_attr (t.attr i) && nat_lt 0 (length_told (t.attr i)) in
    let parent : parent_at t i ≡ Some s.parent = chosen_parent (is_entry t i && nat_lt i t.inodes) (t.slot i) ∙ ap (option_map (λ (s : Slot). s.parent)) e in
    let in_one : is_it (parent_at t i) 1 ≡ true = ap (λ o. is_it o 1) parent ∙ eq-eqb s.parent 1 one in
    both_ways (is_not_bare t i) (bare i (ltb-true i t.inodes parts.1)) (and_from (is_entry t i) (bytes || is_it (parent_at t i) 1) parts.0 (or_right bytes (is_it (parent_at t i) 1) in_one))

pub placed_slot : (s : Slot) → s.parent ≢ 1 → placed_by (Some s) ≡ Some (s.parent, s.name)
placed_slot s ne = ap (λ b. spot (cond b None (Some s.parent)) (cond b [] s.name)) (ne_eqb s.parent 1 ne)

-- ---- entries

module _ (t : Table) (files : ℕ → List ℕ) (sound : IsSoundTable t) (bare : IsBare t) (slots : SlotMap) (are : AreSlots t slots) where
  abbrev rows : Rows
  rows = by_inodes t files

  tree : IsTree rows
  tree = inodes_tree t files sound

  pub placed : (i : ℕ) → place_of rows i ≡ placed_by (get slots i)
  placed i = ap place (got t files sound i) ∙ placed_kept t files i ∙ ap placed_by (sym (are i))

  pub apart_from : (i : ℕ) (s : Slot) → get slots i ≡ Some s → s.parent ≢ 1
  apart_from i s e = not_orphan t bare i s (sym (are i) ∙ e)

  slot_entry : (i p : ℕ) (n : List ℕ) → is_slot_at (get slots i) p n ≡ true → IsEntry rows p n i
  slot_entry i p n = elim (get slots i) as (λ o. get slots i ≡ o → is_slot_at o p n ≡ true → IsEntry rows p n i) [
    | None ↦ λ is h. absurd (cc)
    | Some s ↦ λ is h.
        let parts = and_parts (s.parent == p) (bytes_eq s.name n) h in
        placed i ∙ ap placed_by is ∙ placed_slot s (apart_from i s is)
        ∙ ap₂ (λ (d : ℕ) (m : List ℕ). Some (d, m)) (eqb-true s.parent p parts.0) ((bytes_eq-Decides s.name n).0 parts.1)
  ] refl

  entry_slot : (i p : ℕ) (n : List ℕ) → IsEntry rows p n i → is_slot_at (get slots i) p n ≡ true
  entry_slot i p n e = elim (get slots i) as (λ o. get slots i ≡ o → placed_by o ≡ Some (p, n) → is_slot_at o p n ≡ true) [
    | None ↦ λ is h. absurd (let z : ◌≡◌ {A = Option (ℕ × List ℕ)} None (Some (p, n)) = h in cc)
    | Some s ↦ λ is h.
        let parts = some_pair_parts s.parent p s.name n (sym (placed_slot s (apart_from i s is)) ∙ h) in
        and_from (s.parent == p) (bytes_eq s.name n) (eq-eqb s.parent p parts.0) ((bytes_eq-Decides s.name n).1 parts.1)
  ] refl (sym (placed i) ∙ e)

  apart : AreApart slots
  apart i j p n a b = tree.unique i j p n (slot_entry i p n a) (slot_entry j p n b)

  least : (p : ℕ) (n : List ℕ) (o : Option ℕ) → entry rows p n ≡ o → IsLeast (λ i. is_slot_at (get slots i) p n) o
  least p n None none = λ i. elim (cases_Bool (is_slot_at (get slots i) p n)) [
    | inl there ↦ absurd (vacant_none rows p n none i (slot_entry i p n there))
    | inr not_there ↦ not_there
  ]
  least p n (Some x) is =
      let stands : IsEntry rows p n x = entry_stands rows p n x is in
      (entry_slot x p n stands, λ j h. let same : x ≡ j = tree.unique x j p n stands (slot_entry j p n h) in omega arith)

  -- the index lists the inodes of the children, in their order
  pub same_entries : (p : ℕ) → entries_in slots p ≡ map (λ e. e.1) (children rows p)
  same_entries p =
      listed_in_directory slots p apart
      ∙ ap (λ m. values m) (same_map nat_list_cmp_total bytes_same (directory slots p) (entries_of rows p)
      (λ n. sym (found_in_directory slots p n) ∙ sym (least_by_scan slots p n (entry rows p n) (least p n (entry rows p n) refl))))

  in_any : (xs : List ℕ) (y : ℕ) → In xs y → list_any (λ j. j == y) xs ≡ true
  in_any [] y h = absurd h
  in_any (x ∷ xs) y (inl e) = ap (λ b. b || list_any (λ j. j == y) xs) (eq-eqb x y e)
  in_any (x ∷ xs) y (inr h) = or_right (x == y) (list_any (λ j. j == y) xs) (in_any xs y h)

  slot_in : (p y : ℕ) (o : Option Slot) → get slots y ≡ o → is_in p o ≡ true → parent_in (placed_by o) ≡ Some p
  slot_in p y None is h = absurd (cc)
  slot_in p y (Some s) is h = ap parent_in (placed_slot s (apart_from y s is)) ∙ ap (λ z. Some z) (eqb-true s.parent p h)

  -- what is listed has this parent
  pub entry_parent : (p y : ℕ) → In (entries_in slots p) y → parent_of rows y ≡ Some p
  entry_parent p y h = ap parent_in (placed y) ∙ slot_in p y (get slots y) refl (sym (listed_just slots p y) ∙ in_any (entries_in slots p) y h)
