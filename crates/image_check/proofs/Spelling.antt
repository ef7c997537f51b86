-- The tables of a volume that passes its checks spell its tree.
use Rattle.std.proofs.Common.{◌≡◌, ℕ, ◌-◌, ◌^◌, ◌<◌, ◌≤◌, ◌≢◌, List, [], ◌∷◌, length, refl, sym, ap, subst, ◌∙◌, inl, inr, arith}
use Rattle.std.specs.Prelude.{true, false, cond, not, ◌&&◌, ◌==◌, nat_lt, is_some, Option, Some, None, option_map}
use Rattle.std.specs.Cmp.{nat_cmp_total, unsigned_tied}
use Rattle.std.specs.FinMap.{get, len, remove, empty, empty_of_len, get-empty, get-remove, len-remove}
use Rattle.std.specs.Ordering.{nat_cmp}
use Rattle.std.proofs.lemmas.Bool.{and_parts, and_from, cases_eq, ne_eqb, lt-ltb, le-ltb, ltb-true}
use Rattle.std.proofs.lemmas.Option.{same_Some}
use Rattle.inode_table.specs.declared.attrs.Attr.{Attr}
use Rattle.inode_table.specs.declared.attrs.Kind.{Kind}
use Rattle.inode_table.specs.declared.attrs.Kind.TheVariants as kinds
use Rattle.flat_dirs.specs.declared.slot.Slot.{Slot}
use Rattle.flat_dirs.specs.Slots.{entries_in}
use Rattle.tree_model.specs.declared.rows.Row.{Row}
use Rattle.tree_model.specs.Rows.{Rows, spot, place, parent_in, parent_of}
use Rattle.image_model.specs.Volumes.{Volume, Table, table_of}
use Rattle.image_model.specs.Files.{is_dir_kind, is_file_attr, file_bytes}
use Rattle.image_model.specs.Checks.{first_failure_for_now}
use Rattle.image_model.specs.Trees.{row_by_inode, row_at, by_inodes, body_of_kind, body_given, inodes_of, serial_of, with_parent, row_by_serial, tree_of}
use Rattle.image_model.specs.Carrying.{inode_in}
use Rattle.image_model.specs.SoundLaws.{ListsRows}
use Rattle.image_model.proofs.PreorderLists.{In, Once, in_at, first_at}
use Rattle.image_model.proofs.RowsBelow.{rows_are_those}
use Rattle.image_model.proofs.SoundNumbers.{Numbers}
use Rattle.image_model.proofs.SoundListed.{numbers, serials_tree}
use Rattle.image_model.proofs.SoundVolumes.{inodes_are_listed}
use Rattle.image_check.specs.declared.table.Table.{Table as Read}
use Rattle.image_check.specs.Tables.{seen, IsTableOf}
use Rattle.image_check.specs.Listed.{listed}
use Rattle.image_check.specs.Spelled.{IsPlacedBy, IsKnownBy, IsSpelled}
use Rattle.image_check.proofs.Same.{is_kept}
use Rattle.image_check.proofs.Sounds.{IsSound, sound_of}
use Rattle.image_check.proofs.Entries.{placed_by, placed_kept, placed_slot, placed, apart_from, entry_parent}
use Rattle.image_check.proofs.Walks.{few_rows}
use Rattle.image_check.proofs.Led.{Before, led, places_of}
use Rattle.image_check.proofs.Preordered.{inodes_listed}

-- ---- no more inodes are listed than there are rows

there_still : (t : Rows) (x y : ℕ) → y ≢ x → is_some (get t y) ≡ true → is_some (get (remove t x) y) ≡ true
there_still t x y ne c = ap (λ o. is_some o) (get-remove nat_cmp_total t x y ∙ ap (λ b. cond b None (get t y)) (unsigned_tied y x ∙ ne_eqb y x ne)) ∙ c

some_rows : (t : Rows) (x : ℕ) → is_some (get t x) ≡ true → 0 < len t
some_rows t x p = elim (cases_eq (len t) 0) [
  | inl e ↦ absurd (let q : t ≡ empty = empty_of_len t e in let r : false ≡ true = sym (ap (λ o. is_some o) (ap (λ m. get m x) q ∙ get-empty nat_cmp x)) ∙ p in cc)
  | inr ne ↦ omega arith
]

few_in : (t : Rows) (xs : List ℕ) → Once xs → ((x : ℕ) → In xs x → is_some (get t x) ≡ true) → length xs ≤ len t
few_in t [] one each = omega arith
few_in t (x ∷ xs) one each =
    let here : is_some (get t x) ≡ true = each x (inl refl) in
    let rest : length xs ≤ len (remove t x) = few_in (remove t x) xs one.1 (λ y h. there_still t x y (λ e. one.0 (subst (In xs) e h)) (each y (inr h))) in
    let less : len (remove t x) ≡ len t - 1 = len-remove nat_cmp_total t x ∙ ap (λ b. cond b (len t - 1) (len t)) here in
    let some : 0 < len t = some_rows t x here in
    omega arith

-- ---- rows by serials

moved : (number : ℕ → ℕ) (o : Option Row) (d : ℕ) (n : List ℕ) → place o ≡ Some (d, n) → place (option_map (with_parent number) o) ≡ Some (number d, n)
moved number None d n e = absurd (let z : ◌≡◌ {A = Option (ℕ × List ℕ)} None (Some (d, n)) = e in cc)
moved number (Some r) d n e = of_parent r.parent e
  where
    of_parent : (o : Option ℕ) → spot o r.name ≡ Some (d, n) → spot (option_map number o) r.name ≡ Some (number d, n)
    of_parent None q = absurd (let z : ◌≡◌ {A = Option (ℕ × List ℕ)} None (Some (d, n)) = q in cc)
    of_parent (Some p) q = ap (λ (w : ℕ × List ℕ). Some (number w.0, w.1)) (same_Some (p, r.name) (d, n) q)

-- the slot of an inode that has a parent
slot_of : (o : Option Slot) (d : ℕ) → ((s : Slot) → o ≡ Some s → s.parent ≢ 1) → parent_in (placed_by o) ≡ Some d → (s : Slot) × ((o ≡ Some s) × (s.parent ≡ d))
slot_of None d apart e = absurd (let z : ◌≡◌ {A = Option ℕ} None (Some d) = e in cc)
slot_of (Some s) d apart e = (s, (refl, same_Some s.parent d (sym (ap parent_in (placed_slot s (apart s refl))) ∙ e)))

-- ---- bodies

bare_body : (a : Option Attr) (bytes : List ℕ) → (is_file_attr a ≡ true → bytes ≡ []) → body_given a bytes ≡ body_given a []
bare_body None bytes none = refl
bare_body (Some a) bytes none = elim (a.kind) as (λ (k : Kind). (cond (is_dir_kind k) false true ≡ true → bytes ≡ []) → body_of_kind k a.changes bytes ≡ body_of_kind k a.changes []) [
  | kinds.Dir ↦ λ h. refl
  | kinds.File ↦ λ h. ap (body_of_kind kinds.File a.changes) (h refl)
] none

module _ (v : Volume) (table : Read) (sound : IsSound v) (is : IsTableOf v table) where
  abbrev t : Table
  t = table_of v

  abbrev files : ℕ → List ℕ
  files = file_bytes v

  abbrev inodes : List ℕ
  inodes = inodes_of t files

  lists : ListsRows t inodes
  lists = (inodes_are_listed v sound.passes).0

  by_number : Numbers (by_inodes t files) inodes
  by_number = numbers t files sound.table

  has : (s : ℕ) → s < length inodes → (inode_in inodes s < v.inodes) × (t.is_used (inode_in inodes s) ≡ true)
  has s below =
      let x = inode_in inodes s in
      let outer = and_parts (nat_lt x t.inodes) (t.is_used x && not (x == 1)) (lists.each s below) in
      (ltb-true x t.inodes outer.0, (and_parts (t.is_used x) (not (x == 1)) outer.1).0)

  few : length inodes ≤ v.inodes
  few =
      let a : length inodes ≤ len (by_inodes t files) = few_in (by_inodes t files) inodes by_number.once by_number.each in
      let b : len (by_inodes t files) ≤ v.inodes = few_rows (row_at t files) v.inodes in
      omega arith

  -- the row of each serial
  row : (s : ℕ) → s < length inodes → get (tree_of v) s ≡ option_map (with_parent (serial_of inodes)) (row_at t files (inode_in inodes s))
  row s below = rows_are_those (row_by_serial t files) (length inodes) s ∙ ap (λ b. cond b (row_by_serial t files s) None) (lt-ltb s (length inodes) below)

  row_there : (s : ℕ) → s < length inodes → row_at t files (inode_in inodes s) ≡ Some (row_by_inode t files (inode_in inodes s))
  row_there s below = ap (λ b. cond b (Some (row_by_inode t files (inode_in inodes s))) None) (lists.each s below)

  attr_same : (x : ℕ) → x < v.inodes → t.is_used x ≡ true → (seen table).attr x ≡ t.attr x
  attr_same x below used = (is_kept v table is).attr x below ∙ ap (λ b. cond b (t.attr x) None) used

  known : (s : ℕ) → s < length inodes → IsKnownBy table inodes (tree_of v) s
  known s below =
      let x = inode_in inodes s in
      let inside = has s below in
      record {
        row = with_parent (serial_of inodes) (row_by_inode t files x);
        there = row s below ∙ ap (option_map (with_parent (serial_of inodes))) (row_there s below);
        body = bare_body (t.attr x) (files x) (λ file. sound.empty x (and_from (nat_lt x t.inodes) (t.is_used x && is_file_attr (t.attr x)) (lt-ltb x t.inodes inside.0) (and_from (t.is_used x) (is_file_attr (t.attr x)) inside.1 file)))
            ∙ ap (λ a. body_given a []) (sym (attr_same x inside.0 inside.1));
      }

  -- where it stands
  placed_at : (s : ℕ) → 0 < s → s < length inodes → IsPlacedBy table inodes (tree_of v) s
  placed_at s some below =
      let x = inode_in inodes s in
      let walk : listed (entries_in table.slots) table.used.count 0 ≡ inodes = inodes_listed v table sound is in
      let parents : (p y : ℕ) → In (entries_in table.slots p) y → parent_of (by_inodes t files) y ≡ Some p = entry_parent t files sound.table sound.bare table.slots is.slots in
      elim (led (entries_in table.slots) (parent_of (by_inodes t files)) parents table.used.count 0 x (subst (λ xs. In xs x) (sym walk) (in_at inodes s below))) [
        | inl root ↦ absurd (let same : s ≡ 0 = lists.once s 0 below (omega arith) (root ∙ sym lists.root.1) in omega arith)
        | inr w ↦
            let p = places_of inodes w.0 x (subst (λ xs. Before xs w.0 x) walk w.1.1) in
            let order = p.ordered in
            let inside = p.within in
            let here : p.second ≡ s = lists.once p.second s inside below p.has_second in
            let slot = slot_of (get table.slots x) w.0 (apart_from t files sound.table sound.bare table.slots is.slots x)
            (sym (ap parent_in (placed t files sound.table sound.bare table.slots is.slots x)) ∙ w.1.0) in
            let at_row : place (row_at t files x) ≡ Some (w.0, slot.0.name) =
            placed_kept t files x ∙ ap placed_by (sym (is.slots x) ∙ slot.1.0) ∙ placed_slot slot.0 (apart_from t files sound.table sound.bare table.slots is.slots x slot.0 slot.1.0)
            ∙ ap (λ d. Some (d, slot.0.name)) slot.1.1 in
            let number : serial_of inodes w.0 ≡ p.first = ap (serial_of inodes) (sym p.has_first) ∙ first_at inodes p.first by_number.once (omega arith) in
            record {
              slot = slot.0;
              dir = p.first;
              kept = slot.1.0;
              before = omega arith;
              parent = p.has_first ∙ sym slot.1.1;
              place = ap place (row s below) ∙ moved (serial_of inodes) (row_at t files x) w.0 slot.0.name at_row ∙ ap (λ d. Some (d, slot.0.name)) number;
            }
      ]

  root_slot : get table.slots (inode_in inodes 0) ≡ None
  root_slot = ap (get table.slots) lists.root.1 ∙ is.slots 0

  pub spells : v.inodes < 2 ^ 32 → IsSpelled table inodes (tree_of v)
  spells bound = record {
    tree = serials_tree t files sound.table;
    some = lists.root.0;
    apart = record {
      within = λ s below. let count : table.used.count ≡ v.inodes = ap (λ m. m.count) is.used in let inside = (has s below).0 in omega arith;
      once = lists.once;
      few = let count : table.used.count ≡ v.inodes = ap (λ m. m.count) is.used in let all = few in omega arith;
    };
    few = let all = few in omega arith;
    root = root_slot;
    places = placed_at;
    bodies = known;
    none = λ s past. rows_are_those (row_by_serial t files) (length inodes) s ∙ ap (λ b. cond b (row_by_serial t files s) None) (le-ltb s (length inodes) past);
  }

-- ---- as they were listed

pub spelled_by : (last : Option ℕ) (v : Volume) (table : Read) (list : List ℕ) → first_failure_for_now last v ≡ None → IsTableOf v table → list ≡ listed (entries_in table.slots) table.used.count 0
    → v.inodes < 2 ^ 32 → IsSpelled table list (tree_of v)
spelled_by last v table list passes is walk few =
    let sound = sound_of last v passes in
    subst (λ xs. IsSpelled table xs (tree_of v)) (sym (walk ∙ inodes_listed v table sound is)) (spells v table sound is few)
