-- What is kept beside the rows stays true when a row is put in or changed.
use Rattle.std.proofs.Common.{◌≡◌, ℕ, ◌+◌, ◌^◌, ◌<◌, ◌≤◌, ◌≢◌, List, [], ◌∷◌, refl, sym, ap, subst, ◌∙◌, arith}
use Rattle.std.specs.Prelude.{Bool, true, false, cond, T, ◌&&◌, length, map, ◌==◌, is_none, is_some, OnOk, OnErr, IfSome, IfNone}
use Rattle.std.specs.Option.{option_copied}
use Rattle.std.specs.Borrow.{Bor}
use Rattle.tree_model.specs.Picture.{with_entries, node_of}
use Rattle.std.specs.declared.result.Result.{Result}
use Rattle.std.specs.declared.result.Result.TheVariants.{Ok, Err}
use Rattle.std.specs.declared.option.Option.{Option}
use Rattle.std.specs.declared.option.Option.TheVariants.{None, Some}
use Rattle.std.specs.Ordering.{nat_cmp, eq_by_cmp}
use Rattle.std.specs.Cmp.Lexicographic.{slice_cmp}
use Rattle.std.specs.Cmp.{nat_cmp_total, unsigned_tied}
use Rattle.std.proofs.lemmas.Bool.{and_parts, eqb-true, eq-eqb, ne_eqb}
use Rattle.std.specs.FinMap.{FinMap, get, insert, remove, get-remove, empty, find, is_sorted, entries, entries_sorted, from_entries, from_sorted, len, same_map, get-insert, get-from_entries, get-from_sorted, get-entries, get-empty, len-insert, len-empty, len-entries, entries-from_sorted, nat_cmp-IsAntisymmetric}
use Rattle.std.specs.FinMap.Entries.{below_all}
use Rattle.tree_model.specs.declared.rows.Row.{Row}
use Rattle.tree_model.specs.declared.rows.Update.TheVariants.{Make}
use Rattle.tree_model.specs.Rows.{Rows, IsTree, kind, is_kind, alone}
use Rattle.tree_model.specs.Entries.{Index, entries_of, entry, children}
use Rattle.tree_model.specs.Updates.{Count, change, store, recount, on_body, recounted, apply, new_body}
use Rattle.tree_model.specs.Tests.{applies}
use Rattle.tree_model.specs.declared.rows.Body.TheVariants.{Dir}
use Rattle.tree_model.specs.Nodes.{IndexedRow, IndexedRows, counted_row, recounted_row, entered, told, on_node, put_at, rows_in, index_in, AreIndexed}
use Rattle.tree_model.proofs.Index.{index_new, index_same, index_empty, index_small, no_entries}
use Rattle.tree_model.proofs.Same.{alone_tree, recounted_tree}
use Rattle.tree_model.proofs.Fitting.{applies_fits}
use Rattle.tree_model.proofs.TreeKept.{keeps}

abbrev pub row_in : Option IndexedRow → Option Row
row_in None = None
row_in (Some k) = Some k.0

find_rows : (es : List (ℕ × IndexedRow)) (q : ℕ) → find nat_cmp q (map (λ e. (e.0, e.1.0)) es) ≡ row_in (find nat_cmp q es)
find_rows [] q = refl
find_rows (e ∷ es) q =
    elim (eq_by_cmp nat_cmp q e.0) as (λ b. cond b (Some e.1.0) (find nat_cmp q (map (λ e. (e.0, e.1.0)) es)) ≡ row_in (cond b (Some e.1) (find nat_cmp q es))) [ true ↦ refl | false ↦ find_rows es q ]

pub get_rows : (m : IndexedRows) (q : ℕ) → get (rows_in m) q ≡ row_in (get m q)
get_rows m q = get-from_entries nat_cmp_total (map (λ e. (e.0, e.1.0)) (entries m)) q ∙ find_rows (entries m) q ∙ ap row_in (sym (get-entries m q))

-- ---- as many rows as are kept
below_rows : (x : ℕ) (es : List (ℕ × IndexedRow)) → below_all nat_cmp x (map (λ e. (e.0, e.1.0)) es) ≡ below_all nat_cmp x es
below_rows x [] = refl
below_rows x (e ∷ es) = ap (λ b. Rattle.std.specs.Ordering.is_lt (nat_cmp x e.0) && b) (below_rows x es)

sorted_rows : (es : List (ℕ × IndexedRow)) → is_sorted nat_cmp (map (λ e. (e.0, e.1.0)) es) ≡ is_sorted nat_cmp es
sorted_rows [] = refl
sorted_rows (e ∷ es) = ap (λ b. b && is_sorted nat_cmp (map (λ e. (e.0, e.1.0)) es)) (below_rows e.0 es) ∙ ap (λ b. below_all nat_cmp e.0 es && b) (sorted_rows es)

length_rows : (es : List (ℕ × IndexedRow)) → length {A = ℕ × Row} (map (λ (e : ℕ × IndexedRow). (e.0, e.1.0)) es) ≡ length es
length_rows [] = refl
length_rows (e ∷ es) = ap (λ n. Rattle.std.specs.Prelude.suc n) (length_rows es)

pub entries_rows : (m : IndexedRows) → entries (rows_in m) ≡ map (λ e. (e.0, e.1.0)) (entries m)
entries_rows m =
    let rows = map (λ (e : ℕ × IndexedRow). (e.0, e.1.0)) (entries m) in
    let s : T (is_sorted nat_cmp rows) = subst T (sym (sorted_rows (entries m))) (entries_sorted m) in
    ap entries (same_map nat_cmp_total nat_cmp-IsAntisymmetric (rows_in m) (from_sorted rows) (λ q. get-from_entries nat_cmp_total rows q ∙ sym (get-from_sorted nat_cmp rows q s)))
    ∙ entries-from_sorted nat_cmp rows s

pub len_rows : (m : IndexedRows) → len (rows_in m) ≡ len m
len_rows m = len-entries (rows_in m) ∙ ap length (entries_rows m) ∙ length_rows (entries m) ∙ sym (len-entries m)

-- ---- one row put in
row_cond : (b : Bool) (k : IndexedRow) (o : Option IndexedRow) → row_in (cond b (Some k) o) ≡ cond b (Some k.0) (row_in o)
row_cond true k o = refl
row_cond false k o = refl

pub rows_put : (m : IndexedRows) (x : ℕ) (k : IndexedRow) → rows_in (insert m x k) ≡ insert (rows_in m) x k.0
rows_put m x k = same_map nat_cmp_total nat_cmp-IsAntisymmetric _ _ (λ q.
    get_rows (insert m x k) q ∙ ap row_in (get-insert nat_cmp_total m x k q) ∙ row_cond (eq_by_cmp nat_cmp q x) k (get m q)
    ∙ ap (cond (eq_by_cmp nat_cmp q x) (Some k.0)) (sym (get_rows m q)) ∙ sym (get-insert nat_cmp_total (rows_in m) x k.0 q))

index_cond : (b : Bool) (k : IndexedRow) (o : Option IndexedRow) → index_in (cond b (Some k) o) ≡ cond b k.1 (index_in o)
index_cond true k o = refl
index_cond false k o = refl

pub index_put : (m : IndexedRows) (x : ℕ) (k : IndexedRow) (d : ℕ) → index_in (get (insert m x k) d) ≡ cond (d == x) k.1 (index_in (get m d))
index_put m x k d = ap index_in (get-insert nat_cmp_total m x k d) ∙ index_cond (eq_by_cmp nat_cmp d x) k (get m d) ∙ ap (λ b. cond b k.1 (index_in (get m d))) (unsigned_tied d x)

pub get_put : (m : IndexedRows) (x : ℕ) (k : IndexedRow) (d : ℕ) → get (insert m x k) d ≡ cond (d == x) (Some k) (get m d)
get_put m x k d = get-insert nat_cmp_total m x k d ∙ ap (λ b. cond b (Some k) (get m d)) (unsigned_tied d x)

pub rows_none : rows_in empty ≡ empty
rows_none = same_map nat_cmp_total nat_cmp-IsAntisymmetric _ _ (λ q. get_rows empty q ∙ ap row_in (get-empty nat_cmp q) ∙ sym (get-empty nat_cmp q))

-- a new row without entries under a free serial, at a place that no row has
pub cond_other : {A : Type 0} (d x : ℕ) (a b : A) → (d ≡ x → a ≡ b) → cond (d == x) a b ≡ b
cond_other d x a b h = elim (d == x) as (λ z. (d == x) ≡ z → cond z a b ≡ b) [ true ↦ λ p. h (eqb-true d x p) | false ↦ λ p. refl ] refl

free_index : (m : IndexedRows) → AreIndexed m → (x : ℕ) → get m x ≡ None → entries_of (rows_in m) x ≡ empty
free_index m k x free = sym (k.indexed x) ∙ ap index_in free

pub free_row : (m : IndexedRows) (x : ℕ) → get m x ≡ None → get (rows_in m) x ≡ None
free_row m x free = get_rows m x ∙ ap row_in free

len_free : (m : IndexedRows) (x : ℕ) (k : IndexedRow) → get m x ≡ None → len (insert m x k) ≡ len m + 1
len_free m x k free = len-insert nat_cmp_total m x k ∙ ap (λ o. cond (is_some o) (len m) (len m + 1)) free

pub len_there : (m : IndexedRows) (x : ℕ) (was k : IndexedRow) → get m x ≡ Some was → len (insert m x k) ≡ len m
len_there m x was k is = len-insert nat_cmp_total m x k ∙ ap (λ o. cond (is_some o) (len m) (len m + 1)) is

-- the root alone
abbrev pub root_row : ℕ → Row
root_row changes = record { parent = None; name = []; body = Dir changes }

pub alone_rows : (changes : ℕ) → rows_in (insert empty 0 (root_row changes, empty)) ≡ alone changes
alone_rows changes = rows_put empty 0 (root_row changes, empty) ∙ ap (λ t. insert t 0 (root_row changes)) rows_none

pub kept_alone : (changes : ℕ) → AreIndexed (insert empty 0 (root_row changes, empty))
kept_alone changes =
    let r = root_row changes in
    let is = alone_rows changes in
    record {
      tree = subst IsTree (sym is) (alone_tree changes);
      indexed = λ d. index_put empty 0 (r, empty) d ∙ cond_other d 0 empty (index_in (get empty d)) (λ _. sym (ap index_in (get-empty nat_cmp d)))
          ∙ ap index_in (get-empty nat_cmp d) ∙ sym (index_empty d)
          ∙ sym (index_new empty 0 r d (get-empty nat_cmp 0) (λ h. absurd (subst T (sym h) tt)))
          ∙ ap (λ t. entries_of t d) (sym is);
      few = subst (λ n. n < 2 ^ 32) (sym (len_free empty 0 (r, empty) (get-empty nat_cmp 0))) (let z = len-empty nat_cmp IndexedRow in omega arith);
    }

-- a row that changes and stays where it stands
pub kept_changed : (m : IndexedRows) → AreIndexed m → (x : ℕ) (was : IndexedRow) (r : Row) → get m x ≡ Some was → r.parent ≡ was.0.parent → r.name ≡ was.0.name → IsTree (insert (rows_in m) x r) → AreIndexed (insert m x (r, was.1))
kept_changed m k x was r is p q tree = record {
  tree = subst IsTree (sym (rows_put m x (r, was.1))) tree;
  indexed = λ d. index_put m x (r, was.1) d
      ∙ cond_other d x was.1 (index_in (get m d)) (λ e. sym (ap (λ z. index_in (get m z)) e ∙ ap index_in is))
      ∙ k.indexed d ∙ sym (index_same (rows_in m) x was.0 r d (get_rows m x ∙ ap row_in is) p q) ∙ ap (λ t. entries_of t d) (sym (rows_put m x (r, was.1)));
  few = subst (λ n. n < 2 ^ 32) (sym (len_there m x was (r, was.1) is)) k.few;
}

-- ---- a row made in a directory
pub record Made (m : IndexedRows) (dir : ℕ) (name : List ℕ) (id : ℕ) (is_dir : Bool) (n : IndexedRows) : Type 0 where
  pub kept : AreIndexed n
  pub rows : rows_in n ≡ apply (rows_in m) (Make dir name id is_dir)

row_there : (o : Option IndexedRow) → is_kind (kind (row_in o)) true ≡ true → (k : IndexedRow) × (o ≡ Some k)
row_there None e = absurd (subst T (sym e) tt)
row_there (Some k) e = (k, refl)

none_there : (o : Option IndexedRow) → is_none (row_in o) ≡ true → o ≡ None
none_there None e = refl
none_there (Some k) e = absurd (subst T (sym e) tt)

no_entry : (o : Option ℕ) → is_none o ≡ true → o ≡ None
no_entry None e = refl
no_entry (Some k) e = absurd (subst T (sym e) tt)

pub dir_there : (m : IndexedRows) (dir : ℕ) (name : List ℕ) (id : ℕ) (is_dir : Bool) → applies (rows_in m) (Make dir name id is_dir) ≡ true → (k : IndexedRow) × (get m dir ≡ Some k)
dir_there m dir name id is_dir h = row_there (get m dir) (ap (λ o. is_kind (kind o) true) (sym (get_rows m dir)) ∙ (and_parts _ _ h).0)

pub id_free : (m : IndexedRows) (dir : ℕ) (name : List ℕ) (id : ℕ) (is_dir : Bool) → applies (rows_in m) (Make dir name id is_dir) ≡ true → get m id ≡ None
id_free m dir name id is_dir h = none_there (get m id) (ap is_none (sym (get_rows m id)) ∙ (and_parts _ _ (and_parts _ _ h).1).1)

at_dir : (d dir : ℕ) (a i : Index) (name : List ℕ) (id : ℕ) → (w : Index) → a ≡ insert w name id → (d ≡ dir → w ≡ i) → cond (d == dir) a i ≡ cond (dir == d) (insert i name id) i
at_dir d dir a i name id w is h =
    elim (d == dir) as (λ z. (d == dir) ≡ z → cond z a i ≡ cond (dir == d) (insert i name id) i) [
      | true ↦ λ p. is ∙ ap (λ z. insert z name id) (h (eqb-true d dir p)) ∙ sym (ap (λ b. cond b (insert i name id) i) (eq-eqb dir d (sym (eqb-true d dir p))))
      | false ↦ λ p. sym (ap (λ b. cond b (insert i name id) i) (ne_eqb dir d (λ e. subst T (sym (eq-eqb d dir (sym e)) ∙ p) tt)))
    ] refl

pub made : (m : IndexedRows) → AreIndexed m → (dir : ℕ) (name : List ℕ) (id : ℕ) (is_dir : Bool) → applies (rows_in m) (Make dir name id is_dir) ≡ true → len m + 1 < 2 ^ 32
    → Made m dir name id is_dir (on_node (entered name id) (insert m id (record { parent = Some dir; name = name; body = new_body is_dir }, empty)) dir)
made m k dir name id is_dir h few =
    let t = rows_in m in
    let found = dir_there m dir name id is_dir h in
    let was = found.0 in
    let there : get m dir ≡ Some was = found.1 in
    let free : get m id ≡ None = id_free m dir name id is_dir h in
    let vacant : entry t dir name ≡ None = no_entry _ (and_parts _ _ (and_parts _ _ h).1).0 in
    let r : Row = record { parent = Some dir; name = name; body = new_body is_dir } in
    let apart : dir ≢ id = λ e. subst T (ap is_none (sym free ∙ ap (get m) (sym e) ∙ there)) tt in
    let m1 = insert m id (r, empty) in
    let t1 = insert t id r in
    let there1 : get m1 dir ≡ Some was = get_put m id (r, empty) dir ∙ ap (λ b. cond b (Some (r, empty)) (get m dir)) (ne_eqb dir id apart) ∙ there in
    let row1 : get t1 dir ≡ Some was.0 = ap (λ z. get z dir) (sym (rows_put m id (r, empty))) ∙ get_rows m1 dir ∙ ap row_in there1 in
    let m2 = insert m1 dir (entered name id was) in
    let same : on_node (entered name id) m1 dir ≡ m2 = ap (put_at (entered name id) m1 dir) there1 in
    let rows2 : rows_in m2 ≡ insert t1 dir (counted_row was.0) = rows_put m1 dir (entered name id was) ∙ ap (λ z. insert z dir (counted_row was.0)) (rows_put m id (r, empty)) in
    let u = Make dir name id is_dir in
    let rows : rows_in m2 ≡ apply t u = rows2 ∙ ap (λ o. store t1 dir (change Count o)) (sym row1) in
    let whole : AreIndexed m2 = record {
      tree = subst IsTree (sym rows) (keeps t u (k.tree, (applies_fits t u k.tree).0 h));
      indexed = λ d.
          index_put m1 dir (entered name id was) d
          ∙ ap (cond (d == dir) (insert was.1 name id)) (index_put m id (r, empty) d ∙ cond_other d id empty (index_in (get m d)) (λ e. sym (ap (λ z. index_in (get m z)) e ∙ ap index_in free)) ∙ k.indexed d)
          ∙ at_dir d dir (insert was.1 name id) (entries_of t d) name id was.1 refl (λ e. sym (ap index_in there) ∙ k.indexed dir ∙ ap (entries_of t) (sym e))
          ∙ sym (ap (λ z. entries_of z d) rows2 ∙ index_same t1 dir was.0 (counted_row was.0) d row1 refl refl
          ∙ index_new t id r d (free_row m id free) (λ q. ap (λ z. entry t z name) (sym (eqb-true dir d q)) ∙ vacant));
      few = subst (λ n. n < 2 ^ 32) (sym (len_there m1 dir was (entered name id was) there1 ∙ len_free m id (r, empty) free)) few;
    } in
    record {
      kept = subst AreIndexed (sym same) whole;
      rows = ap rows_in same ∙ rows;
    }

-- ---- what is found among what is kept
pub entry_none : (m : IndexedRows) → AreIndexed m → (d : ℕ) (n : List ℕ) → get m d ≡ None → entry (rows_in m) d n ≡ None
entry_none m k d n none = ap (λ i. get i n) (free_index m k d none) ∙ get-empty (slice_cmp nat_cmp) n

pub children_none : (m : IndexedRows) → AreIndexed m → (d : ℕ) → get m d ≡ None → length (children (rows_in m) d) ≡ 0
children_none m k d none = ap (λ i. length (entries i)) (free_index m k d none) ∙ sym (len-entries empty) ∙ len-empty (slice_cmp nat_cmp) ℕ

pub children_some : (m : IndexedRows) → AreIndexed m → (d : ℕ) (was : IndexedRow) → get m d ≡ Some was → length (children (rows_in m) d) ≡ len was.1
children_some m k d was is = sym (len-entries (entries_of (rows_in m) d)) ∙ ap len (sym (k.indexed d) ∙ ap index_in is)

pub few_entries : (m : IndexedRows) → AreIndexed m → (d : ℕ) (was : IndexedRow) → get m d ≡ Some was → len was.1 < 2 ^ 32
few_entries m k d was is =
    let a : len (entries_of (rows_in m) d) ≤ len (rows_in m) = index_small (rows_in m) d in
    let b = len_rows m in
    let c : len was.1 ≡ len (entries_of (rows_in m) d) = ap len (sym (ap index_in is) ∙ k.indexed d) in
    let f = k.few in
    omega arith

-- what holds after each of a call's answers
pub on_both : {X E P : Type 0} (r : Result X E) → OnOk r P → OnErr r P → P
on_both (Ok x) a b = a
on_both (Err e) a b = b

whole : (o : Option IndexedRow) → with_entries (index_in o) (row_in o) ≡ o
whole None = refl
whole (Some k) = refl

pub node_kept : (m : IndexedRows) → AreIndexed m → (x : ℕ) → node_of (rows_in m) x ≡ get m x
node_kept m k x = ap (λ i. with_entries i (get (rows_in m) x)) (sym (k.indexed x)) ∙ ap (with_entries (index_in (get m x))) (get_rows m x) ∙ whole (get m x)

pub few_there : (m : IndexedRows) → AreIndexed m → (x : ℕ) (o : Option (Bor IndexedRow)) → option_copied o ≡ get m x → IfSome o (λ node. len node.now.1 < 2 ^ 32)
few_there m k x None is = tt
few_there m k x (Some node) is = few_entries m k x node.now (sym is)

pub bare_there : (m : IndexedRows) → AreIndexed m → (x : ℕ) (o : Option (Bor IndexedRow)) → option_copied o ≡ get m x → IfNone o (children (rows_in m) x ≡ [])
bare_there m k x None is = ap entries (free_index m k x (sym is)) ∙ no_entries (entries empty) (sym (len-entries empty) ∙ len-empty (slice_cmp nat_cmp) ℕ)
bare_there m k x (Some node) is = tt

-- ---- a directory's count told
pub none_stored : (t : Rows) (x : ℕ) → get t x ≡ None → t ≡ remove t x
none_stored t x e = same_map nat_cmp_total nat_cmp-IsAntisymmetric _ _ (λ q. sym (get-remove nat_cmp_total t x q
    ∙ ap (λ b. cond b None (get t q)) (unsigned_tied q x)
    ∙ cond_other q x None (get t q) (λ p. sym (ap (get t) p ∙ e))))

pub record Told (m : IndexedRows) (x changes : ℕ) (n : IndexedRows) : Type 0 where
  pub kept : AreIndexed n
  pub rows : rows_in n ≡ recount (rows_in m) x changes

told_at : (m : IndexedRows) → AreIndexed m → (x changes : ℕ) (o : Option IndexedRow) → get m x ≡ o → Told m x changes (put_at (told changes) m x o)
told_at m k x changes None is = record {
  kept = k;
  rows = none_stored (rows_in m) x (free_row m x is) ∙ ap (λ o. store (rows_in m) x (on_body (recounted changes) o)) (sym (free_row m x is));
}
told_at m k x changes (Some was) is =
    let there : get (rows_in m) x ≡ Some was.0 = get_rows m x ∙ ap row_in is in
    let stored : recount (rows_in m) x changes ≡ insert (rows_in m) x (recounted_row changes was.0) = ap (λ o. store (rows_in m) x (on_body (recounted changes) o)) there in
    record {
      kept = kept_changed m k x was (recounted_row changes was.0) is refl refl (subst IsTree stored (recounted_tree (rows_in m) k.tree x changes));
      rows = rows_put m x (told changes was) ∙ sym stored;
    }

pub told_kept : (m : IndexedRows) → AreIndexed m → (x changes : ℕ) → Told m x changes (on_node (told changes) m x)
told_kept m k x changes = told_at m k x changes (get m x) refl
