-- What is kept beside the rows stays true when an update is made.
use Rattle.std.proofs.Common.{◌≡◌, ℕ, ◌-◌, ◌≤◌, ◌≢◌, List, [], refl, sym, ap, subst, ◌∙◌, arith}
use Rattle.std.specs.Prelude.{Bool, true, false, cond, ◌==◌, is_some, IsTrue}
use Rattle.std.specs.declared.option.Option.{Option}
use Rattle.std.specs.declared.option.Option.TheVariants.{None, Some}
use Rattle.std.specs.Ordering.{nat_cmp, eq_by_cmp}
use Rattle.std.specs.Cmp.{nat_cmp_total, unsigned_tied}
use Rattle.std.specs.FinMap.{get, insert, remove, empty, len, same_map, get-remove, get-empty, len-remove, nat_cmp-IsAntisymmetric}
use Rattle.std.proofs.lemmas.Bool.{eqb-true, eq-eqb, ne_eqb}
use Rattle.std.proofs.lemmas.Cmp.{nat_list_cmp_total}
use Rattle.std.proofs.lemmas.Option.{same_Some}
use Rattle.ccfs_base.specs.Contents.{resized, written}
use Rattle.tree_model.specs.declared.rows.Row.{Row}
use Rattle.tree_model.specs.declared.rows.Update.{Update}
use Rattle.tree_model.specs.declared.rows.Update.TheVariants.{Write, Resize, Remove, Move, Release}
use Rattle.tree_model.specs.Rows.{Rows, IsTree, IsFile, IsDir, IsEmpty, kind, place_of, kind_of}
use Rattle.tree_model.specs.Entries.{Index, entries_of}
use Rattle.tree_model.specs.Updates.{counted, refilled, on_row, on_body, store, apply, left_of, Fits, MayReplace}
use Rattle.tree_model.specs.Tests.{applies}
use Rattle.tree_model.specs.Nodes.{IndexedRow, IndexedRows, counted_node, placed_node, unplaced_node, refilled_node, with_entry, without_entry, left_in, left_over, on_node, put_at, rows_in, index_in, AreIndexed}
use Rattle.tree_model.proofs.MapView.{insert_same, bytes_same}
use Rattle.tree_model.proofs.Index.{bytes_cmp}
use Rattle.tree_model.proofs.Found.{entry_is}
use Rattle.tree_model.proofs.Stays.{row_in, get_rows, rows_put, index_put, cond_other, free_row, len_there, none_stored}
use Rattle.tree_model.proofs.Chains.{not_both}
use Rattle.tree_model.proofs.Placed.{is_that, placed_write, placed_resize, placed_remove, placed_move, placed_release}
use Rattle.tree_model.proofs.Places.{Tells, none_some, entries_told, tells_same, tells_indexes, tells_drop, tells_move, tells_bare}
use Rattle.tree_model.proofs.TreeKept.{keeps}
use Rattle.tree_model.proofs.Fitting.{applies_fits}

-- what is kept after an update
pub record After (m : IndexedRows) (u : Update) (n : IndexedRows) : Type 0 where
  pub kept : AreIndexed n
  pub rows : rows_in n ≡ apply (rows_in m) u

-- ---- single changes: what they make of the rows
row_op_at : (f : IndexedRow → IndexedRow) (g : Row → Row) (m : IndexedRows) (x : ℕ) (o : Option IndexedRow) → get m x ≡ o → ((k : IndexedRow) → (f k).0 ≡ g k.0) → rows_in (put_at f m x o) ≡ store (rows_in m) x (on_row g (get (rows_in m) x))
row_op_at f g m x None is same = none_stored (rows_in m) x (free_row m x is) ∙ ap (λ o. store (rows_in m) x (on_row g o)) (sym (free_row m x is))
row_op_at f g m x (Some k) is same = rows_put m x (f k) ∙ ap (insert (rows_in m) x) (same k) ∙ ap (λ o. store (rows_in m) x (on_row g o)) (sym (get_rows m x ∙ ap row_in is))

rows_of : (f : IndexedRow → IndexedRow) (g : Row → Row) (m : IndexedRows) (x : ℕ) → ((k : IndexedRow) → (f k).0 ≡ g k.0) → rows_in (on_node f m x) ≡ store (rows_in m) x (on_row g (get (rows_in m) x))
rows_of f g m x same = row_op_at f g m x (get m x) refl same

same_rows_at : (f : IndexedRow → IndexedRow) (m : IndexedRows) (x : ℕ) (o : Option IndexedRow) → get m x ≡ o → ((k : IndexedRow) → (f k).0 ≡ k.0) → rows_in (put_at f m x o) ≡ rows_in m
same_rows_at f m x None is same = refl
same_rows_at f m x (Some k) is same = rows_put m x (f k) ∙ ap (insert (rows_in m) x) (same k) ∙ insert_same nat_cmp_total nat_cmp-IsAntisymmetric (rows_in m) x k.0 (get_rows m x ∙ ap row_in is)

same_rows : (f : IndexedRow → IndexedRow) (m : IndexedRows) (x : ℕ) → ((k : IndexedRow) → (f k).0 ≡ k.0) → rows_in (on_node f m x) ≡ rows_in m
same_rows f m x same = same_rows_at f m x (get m x) refl same

taken_row : (b : Bool) (o : Option IndexedRow) → row_in (cond b None o) ≡ cond b None (row_in o)
taken_row true o = refl
taken_row false o = refl

rows_taken : (m : IndexedRows) (x : ℕ) → rows_in (remove m x) ≡ remove (rows_in m) x
rows_taken m x = same_map nat_cmp_total nat_cmp-IsAntisymmetric _ _ (λ q.
    get_rows (remove m x) q ∙ ap row_in (get-remove nat_cmp_total m x q) ∙ taken_row (eq_by_cmp nat_cmp q x) (get m q)
    ∙ ap (cond (eq_by_cmp nat_cmp q x) None) (sym (get_rows m q)) ∙ sym (get-remove nat_cmp_total (rows_in m) x q))

rows_left : (stays : Bool) (m : IndexedRows) (x : ℕ) → rows_in (left_in stays m x) ≡ store (rows_in m) x (left_of stays (get (rows_in m) x))
rows_left true m x = rows_of unplaced_node (λ r. record r { parent = None; name = [] }) m x (λ k. refl)
rows_left false m x = rows_taken m x

-- ---- what they make of the indexes
index_op_at : (f : IndexedRow → IndexedRow) (h : Index → Index) (m : IndexedRows) (x d : ℕ) (o : Option IndexedRow) → get m x ≡ o → ((k : IndexedRow) → (f k).1 ≡ h k.1) → (o ≡ None → h empty ≡ empty)
    → index_in (get (put_at f m x o) d) ≡ cond (d == x) (h (index_in (get m d))) (index_in (get m d))
index_op_at f h m x d None is same bare =
    sym (cond_other d x (h (index_in (get m d))) (index_in (get m d)) (λ p. let i : index_in (get m d) ≡ empty = ap (λ z. index_in (get m z)) p ∙ ap index_in is in ap h i ∙ bare refl ∙ sym i))
index_op_at f h m x d (Some k) is same bare =
    index_put m x (f k) d
    ∙ elim (d == x) as (λ b. (d == x) ≡ b → cond b (f k).1 (index_in (get m d)) ≡ cond b (h (index_in (get m d))) (index_in (get m d))) [
      | true ↦ λ p. same k ∙ ap h (sym (ap (λ z. index_in (get m z)) (eqb-true d x p) ∙ ap index_in is))
      | false ↦ λ p. refl
    ] refl

index_of : (f : IndexedRow → IndexedRow) (m : IndexedRows) (x d : ℕ) → ((k : IndexedRow) → (f k).1 ≡ k.1) → index_in (get (on_node f m x) d) ≡ index_in (get m d)
index_of f m x d same =
    index_op_at f (λ i. i) m x d (get m x) refl same (λ _. refl)
    ∙ cond_other d x (index_in (get m d)) (index_in (get m d)) (λ _. refl)

no_entry_out : (n : List ℕ) → ◌≡◌ {A = Index} (remove empty n) empty
no_entry_out n = same_map nat_list_cmp_total bytes_same _ _ (λ q. get-remove nat_list_cmp_total empty n q
    ∙ ap (cond (eq_by_cmp bytes_cmp q n) None) (get-empty bytes_cmp q)
    ∙ elim (eq_by_cmp bytes_cmp q n) as (λ b. ◌≡◌ {A = Option ℕ} (cond b None None) None) [ true ↦ refl | false ↦ refl ] ∙ sym (get-empty bytes_cmp q))

index_dropped : (name : List ℕ) (m : IndexedRows) (x d : ℕ) → index_in (get (on_node (without_entry name) m x) d) ≡ cond (d == x) (remove (index_in (get m d)) name) (index_in (get m d))
index_dropped name m x d = index_op_at (without_entry name) (λ i. remove i name) m x d (get m x) refl (λ k. refl) (λ _. no_entry_out name)

index_entered : (name : List ℕ) (id : ℕ) (m : IndexedRows) (x d : ℕ) (k : IndexedRow) → get m x ≡ Some k → index_in (get (on_node (with_entry name id) m x) d) ≡ cond (d == x) (insert (index_in (get m d)) name id) (index_in (get m d))
index_entered name id m x d k is = index_op_at (with_entry name id) (λ i. insert i name id) m x d (get m x) refl (λ k. refl) (λ none. absurd (none_some k (sym none ∙ is)))

index_cond : (b : Bool) (o : Option IndexedRow) → index_in (cond b None o) ≡ cond b empty (index_in o)
index_cond true o = refl
index_cond false o = refl

index_taken : (m : IndexedRows) (x d : ℕ) → index_in (get (remove m x) d) ≡ cond (d == x) empty (index_in (get m d))
index_taken m x d = ap index_in (get-remove nat_cmp_total m x d) ∙ index_cond (eq_by_cmp nat_cmp d x) (get m d) ∙ ap (λ b. cond b empty (index_in (get m d))) (unsigned_tied d x)

-- the index of a row that is left out, or stays as a file
abbrev pub bared : Bool → ℕ → ℕ → Index → Index
bared true x d i = i
bared false x d i = cond (d == x) empty i

index_left : (stays : Bool) (m : IndexedRows) (x d : ℕ) → index_in (get (left_in stays m x) d) ≡ bared stays x d (index_in (get m d))
index_left true m x d = index_of unplaced_node m x d (λ k. refl)
index_left false m x d = index_taken m x d

-- ---- how many there are
few_at : (f : IndexedRow → IndexedRow) (m : IndexedRows) (x : ℕ) (o : Option IndexedRow) → get m x ≡ o → len (put_at f m x o) ≤ len m
few_at f m x None is = omega arith
few_at f m x (Some k) is = let l = len_there m x k (f k) is in omega (arith, l)

few_on : (f : IndexedRow → IndexedRow) (m : IndexedRows) (x : ℕ) → len (on_node f m x) ≤ len m
few_on f m x = few_at f m x (get m x) refl

some_less : (b : Bool) (n : ℕ) → cond b (n - 1) n ≤ n
some_less true n = omega arith
some_less false n = omega arith

few_left : (stays : Bool) (m : IndexedRows) (x : ℕ) → len (left_in stays m x) ≤ len m
few_left true m x = few_on unplaced_node m x
few_left false m x = subst (λ n. n ≤ len m) (sym (len-remove nat_cmp_total m x)) (some_less (is_some (get m x)) (len m))

-- ---- the whole
pub kept_told : (m : IndexedRows) → AreIndexed m → Tells (place_of (rows_in m)) (λ d. index_in (get m d))
kept_told m k = tells_indexes (place_of (rows_in m)) (λ d. entries_of (rows_in m) d) (λ d. index_in (get m d)) (λ d n y. entry_is (rows_in m) k.tree d n y) k.indexed

kept_after : (m n : IndexedRows) (u : Update) → AreIndexed m → Fits (rows_in m) u → rows_in n ≡ apply (rows_in m) u → len n ≤ len m
    → (places : ℕ → Option (ℕ × List ℕ)) (indexes : ℕ → Index) → Tells places indexes → ((y : ℕ) → place_of (apply (rows_in m) u) y ≡ places y) → ((d : ℕ) → index_in (get n d) ≡ indexes d) → After m u n
kept_after m n u k f rows few places indexes told stand kept =
    let t = apply (rows_in m) u in
    let tree : IsTree t = keeps (rows_in m) u (k.tree, f) in
    record {
      kept = record {
        tree = subst IsTree (sym rows) tree;
        indexed = λ d. kept d ∙ entries_told t tree indexes (tells_same places (place_of t) indexes told stand) d ∙ ap (λ z. entries_of z d) (sym rows);
        few = let a = k.few in omega (arith, a, few);
      };
      rows = rows;
    }

-- ---- a file's bytes
filled : (u : Update) (f : List ℕ → List ℕ) (m : IndexedRows) (id : ℕ) → AreIndexed m → Fits (rows_in m) u → apply (rows_in m) u ≡ store (rows_in m) id (on_body (refilled f) (get (rows_in m) id))
    → ((y : ℕ) → place_of (apply (rows_in m) u) y ≡ place_of (rows_in m) y) → After m u (on_node (refilled_node f) m id)
filled u f m id k fit is stand =
    kept_after m (on_node (refilled_node f) m id) u k fit (rows_of (refilled_node f) (λ r. record r { body = refilled f r.body }) m id (λ k. refl) ∙ sym is) (few_on (refilled_node f) m id)
    (place_of (rows_in m)) (λ d. index_in (get m d)) (kept_told m k) stand (λ d. index_of (refilled_node f) m id d (λ k. refl))

pub after_write : (m : IndexedRows) → AreIndexed m → (id off : ℕ) (bytes : List ℕ) → IsTrue (applies (rows_in m) (Write id off bytes)) → After m (Write id off bytes) (on_node (refilled_node (written off bytes)) m id)
after_write m k id off bytes h = filled (Write id off bytes) (written off bytes) m id k ((applies_fits (rows_in m) (Write id off bytes) k.tree).0 h) refl (placed_write (rows_in m) id off bytes)

pub after_resize : (m : IndexedRows) → AreIndexed m → (id size : ℕ) → IsTrue (applies (rows_in m) (Resize id size)) → After m (Resize id size) (on_node (refilled_node (resized size)) m id)
after_resize m k id size h = filled (Resize id size) (resized size) m id k ((applies_fits (rows_in m) (Resize id size) k.tree).0 h) refl (placed_resize (rows_in m) id size)

-- ---- a row taken out
childless : (t : Rows) → IsTree t → (x : ℕ) → IsFile t x → (y : ℕ) (n : List ℕ) → place_of t y ≢ Some (x, n)
childless t w x file y n e = not_both t x file (w.parents y x n e)

empty_row : (t : Rows) → IsTree t → (x : ℕ) → (kind_of t x ≡ Some true → IsEmpty t x) → (o : Option Bool) → kind_of t x ≡ o → (y : ℕ) (n : List ℕ) → place_of t y ≢ Some (x, n)
empty_row t w x h (Some true) is y n = h is y n
empty_row t w x h (Some false) is y n = childless t w x is y n
empty_row t w x h None is y n = λ e. none_some true (sym is ∙ w.parents y x n e)

-- where nothing stands in a row, its index may be left out
tells_left : (stays : Bool) (places : ℕ → Option (ℕ × List ℕ)) (indexes : ℕ → Index) → Tells places indexes → (x : ℕ) → ((y : ℕ) (n : List ℕ) → places y ≢ Some (x, n)) → Tells places (λ d. bared stays x d (indexes d))
tells_left true places indexes told x bare = told
tells_left false places indexes told x bare = tells_bare places indexes told x bare

dropped_bare : (places : ℕ → Option (ℕ × List ℕ)) (id x : ℕ) → ((y : ℕ) (n : List ℕ) → places y ≢ Some (x, n)) → (y : ℕ) (n : List ℕ) → cond (y == id) None (places y) ≢ Some (x, n)
dropped_bare places id x bare y n = elim (y == id) as (λ b. cond b None (places y) ≢ Some (x, n)) [ true ↦ λ e. none_some (x, n) e | false ↦ bare y n ]

pub after_remove : (m : IndexedRows) → AreIndexed m → (dir : ℕ) (name : List ℕ) (id : ℕ) (stays : Bool) → IsTrue (applies (rows_in m) (Remove dir name id stays))
    → After m (Remove dir name id stays) (on_node counted_node (left_in stays (on_node (without_entry name) m dir) id) dir)
after_remove m k dir name id stays h =
    let t = rows_in m in
    let u = Remove dir name id stays in
    let fit : Fits t u = (applies_fits t u k.tree).0 h in
    let m1 = on_node (without_entry name) m dir in
    let m2 = left_in stays m1 id in
    let n = on_node counted_node m2 dir in
    let rows1 : rows_in m1 ≡ t = same_rows (without_entry name) m dir (λ k. refl) in
    let rows2 : rows_in m2 ≡ store t id (left_of stays (get t id)) = rows_left stays m1 id ∙ ap (λ z. store z id (left_of stays (get z id))) rows1 in
    let rows : rows_in n ≡ apply t u = rows_of counted_node (λ r. record r { body = counted r.body }) m2 dir (λ k. refl) ∙ ap (λ z. store z dir (on_body counted (get z dir))) rows2 in
    let few : len n ≤ len m = (let a = few_on counted_node m2 dir in let b = few_left stays m1 id in let c = few_on (without_entry name) m dir in omega (arith, a, b, c)) in
    let places = λ (y : ℕ). cond (y == id) None (place_of t y) in
    let indexes = λ (d : ℕ). cond (d == dir) (remove (index_in (get m d)) name) (index_in (get m d)) in
    let bare : (y : ℕ) (n : List ℕ) → place_of t y ≢ Some (id, n) = empty_row t k.tree id (λ d. (fit.1 d).0) (kind_of t id) refl in
    kept_after m n u k fit rows few places (λ d. bared stays id d (indexes d))
    (tells_left stays places indexes (tells_drop (place_of t) (λ d. index_in (get m d)) (kept_told m k) id dir name fit.0) id (dropped_bare (place_of t) id id bare))
    (placed_remove t dir name id stays)
    (λ d. index_of counted_node m2 dir d (λ k. refl) ∙ index_left stays m1 id d ∙ ap (bared stays id d) (index_dropped name m dir d))

pub after_release : (m : IndexedRows) → AreIndexed m → (id : ℕ) → IsTrue (applies (rows_in m) (Release id)) → After m (Release id) (remove m id)
after_release m k id h =
    let t = rows_in m in
    let fit : Fits t (Release id) = (applies_fits t (Release id) k.tree).0 h in
    let stand : (y : ℕ) → place_of (apply t (Release id)) y ≡ place_of t y = λ y.
    placed_release t id y ∙ cond_other y id None (place_of t y) (λ p. sym (ap (place_of t) p ∙ fit.1)) in
    kept_after m (remove m id) (Release id) k fit (rows_taken m id) (few_left false m id) (place_of t) (λ d. cond (d == id) empty (index_in (get m d)))
    (tells_bare (place_of t) (λ d. index_in (get m d)) (kept_told m k) id (childless t k.tree id fit.0)) stand (λ d. index_taken m id d)

-- ---- a row moved
-- what a move leaves of the file that it replaces
abbrev pub replaced_left : Rows → Option ℕ → Bool → Rows
replaced_left t None stays = t
replaced_left t (Some x) stays = store t x (left_of stays (get t x))

rows_over : (stays : Bool) (m : IndexedRows) (replaced : Option ℕ) → rows_in (left_over stays m replaced) ≡ replaced_left (rows_in m) replaced stays
rows_over stays m None = refl
rows_over stays m (Some x) = rows_left stays m x

few_over : (stays : Bool) (m : IndexedRows) (replaced : Option ℕ) → len (left_over stays m replaced) ≤ len m
few_over stays m None = omega arith
few_over stays m (Some x) = few_left stays m x

abbrev pub bared_over : Bool → Option ℕ → ℕ → Index → Index
bared_over stays None d i = i
bared_over stays (Some x) d i = bared stays x d i

index_over : (stays : Bool) (m : IndexedRows) (replaced : Option ℕ) (d : ℕ) → index_in (get (left_over stays m replaced) d) ≡ bared_over stays replaced d (index_in (get m d))
index_over stays m None d = refl
index_over stays m (Some x) d = index_left stays m x d

tells_over : (stays : Bool) (replaced : Option ℕ) (places : ℕ → Option (ℕ × List ℕ)) (indexes : ℕ → Index) → Tells places indexes
    → ((x : ℕ) → replaced ≡ Some x → (y : ℕ) (n : List ℕ) → places y ≢ Some (x, n)) → Tells places (λ d. bared_over stays replaced d (indexes d))
tells_over stays None places indexes told bare = told
tells_over stays (Some x) places indexes told bare = tells_left stays places indexes told x (bare x refl)

abbrev pub placed_at : Rows → ℕ → ℕ → List ℕ → Rows
placed_at t id dir name = store t id (on_row (λ r. record r { parent = Some dir; name = name }) (get t id))

abbrev pub counted_at : Rows → ℕ → Rows
counted_at t dir = store t dir (on_body counted (get t dir))

apply_move : (t : Rows) (dir : ℕ) (name : List ℕ) (to_dir : ℕ) (to_name : List ℕ) (id : ℕ) (is_dir : Bool) (replaced : Option ℕ) (stays : Bool)
    → counted_at (counted_at (placed_at (replaced_left t replaced stays) id to_dir to_name) dir) to_dir ≡ apply t (Move dir name to_dir to_name id is_dir replaced stays)
apply_move t dir name to_dir to_name id is_dir None stays = refl
apply_move t dir name to_dir to_name id is_dir (Some x) stays = refl

there_of : (m : IndexedRows) (x : ℕ) (o : Option IndexedRow) → get m x ≡ o → IsDir (rows_in m) x → (k : IndexedRow) × (get m x ≡ Some k)
there_of m x None is dir = absurd (none_some true (sym (ap kind (get_rows m x ∙ ap row_in is)) ∙ dir))
there_of m x (Some k) is dir = (k, is)

that_false : (r : Option ℕ) (x : ℕ) → r ≢ Some x → is_that r x ≡ false
that_false None x ne = refl
that_false (Some z) x ne = ne_eqb x z (λ p. ne (ap (λ q. Some q) (sym p)))

that_is : (t : Rows) (to_dir : ℕ) (to_name : List ℕ) (is_dir : Bool) (r : Option ℕ) → MayReplace t to_dir to_name is_dir r → (y : ℕ) → is_that r y ≡ true → place_of t y ≡ Some (to_dir, to_name)
that_is t to_dir to_name is_dir None may y h = absurd (cc)
that_is t to_dir to_name is_dir (Some x) may y h = ap (place_of t) (eqb-true y x h) ∙ may.0

is_that_one : (t : Rows) → IsTree t → (to_dir : ℕ) (to_name : List ℕ) (is_dir : Bool) (r : Option ℕ) → MayReplace t to_dir to_name is_dir r → (y : ℕ) → place_of t y ≡ Some (to_dir, to_name) → is_that r y ≡ true
is_that_one t w to_dir to_name is_dir None may y h = absurd (may y h)
is_that_one t w to_dir to_name is_dir (Some x) may y h = eq-eqb y x (w.unique y x to_dir to_name h may.0)

file_replaced : (t : Rows) (to_dir : ℕ) (to_name : List ℕ) (is_dir : Bool) (r : Option ℕ) → MayReplace t to_dir to_name is_dir r → (x : ℕ) → r ≡ Some x → IsFile t x
file_replaced t to_dir to_name is_dir None may x e = absurd (none_some x e)
file_replaced t to_dir to_name is_dir (Some z) may x e = subst (IsFile t) (same_Some z x e) may.1

-- no row stands in a replaced file after the move
bare_moved : (t : Rows) → IsTree t → (id to_dir : ℕ) (to_name : List ℕ) (r : Option ℕ) (x : ℕ) → IsFile t x → IsDir t to_dir
    → (y : ℕ) (n : List ℕ) → cond (y == id) (Some (to_dir, to_name)) (cond (is_that r y) None (place_of t y)) ≢ Some (x, n)
bare_moved t w id to_dir to_name r x file dir y n =
    elim (y == id) as (λ b. cond b (Some (to_dir, to_name)) (cond (is_that r y) None (place_of t y)) ≢ Some (x, n)) [
      | true ↦ λ e. not_both t x file (subst (IsDir t) (ap (λ z. z.0) (same_Some (to_dir, to_name) (x, n) e)) dir)
      | false ↦ elim (is_that r y) as (λ b. cond b None (place_of t y) ≢ Some (x, n)) [ true ↦ λ e. none_some (x, n) e | false ↦ childless t w x file y n ]
    ]

-- what is kept after the steps of a move
abbrev pub moved : IndexedRows → ℕ → List ℕ → ℕ → List ℕ → ℕ → Option ℕ → Bool → IndexedRows
moved m dir name to_dir to_name id replaced stays =
    on_node counted_node (on_node counted_node (on_node (placed_node to_dir to_name)
    (left_over stays (on_node (without_entry name) (on_node (with_entry to_name id) m to_dir) dir) replaced) id) dir) to_dir

moved_rows : (m : IndexedRows) (dir : ℕ) (name : List ℕ) (to_dir : ℕ) (to_name : List ℕ) (id : ℕ) (is_dir : Bool) (replaced : Option ℕ) (stays : Bool)
    → rows_in (moved m dir name to_dir to_name id replaced stays) ≡ apply (rows_in m) (Move dir name to_dir to_name id is_dir replaced stays)
moved_rows m dir name to_dir to_name id is_dir replaced stays =
    let counts = λ (r : Row). record r { body = counted r.body } in
    let m1 = on_node (with_entry to_name id) m to_dir in
    let m2 = on_node (without_entry name) m1 dir in
    let m3 = left_over stays m2 replaced in
    let m4 = on_node (placed_node to_dir to_name) m3 id in
    let m5 = on_node counted_node m4 dir in
    let rows2 : rows_in m2 ≡ rows_in m = same_rows (without_entry name) m1 dir (λ k. refl) ∙ same_rows (with_entry to_name id) m to_dir (λ k. refl) in
    let rows3 : rows_in m3 ≡ replaced_left (rows_in m) replaced stays = rows_over stays m2 replaced ∙ ap (λ z. replaced_left z replaced stays) rows2 in
    rows_of counted_node counts m5 to_dir (λ k. refl)
    ∙ ap (λ z. counted_at z to_dir) (rows_of counted_node counts m4 dir (λ k. refl)
    ∙ ap (λ z. counted_at z dir) (rows_of (placed_node to_dir to_name) (λ r. record r { parent = Some to_dir; name = to_name }) m3 id (λ k. refl)
    ∙ ap (λ z. placed_at z id to_dir to_name) rows3))
    ∙ apply_move (rows_in m) dir name to_dir to_name id is_dir replaced stays

moved_few : (m : IndexedRows) (dir : ℕ) (name : List ℕ) (to_dir : ℕ) (to_name : List ℕ) (id : ℕ) (replaced : Option ℕ) (stays : Bool) → len (moved m dir name to_dir to_name id replaced stays) ≤ len m
moved_few m dir name to_dir to_name id replaced stays =
    let m1 = on_node (with_entry to_name id) m to_dir in
    let m2 = on_node (without_entry name) m1 dir in
    let m3 = left_over stays m2 replaced in
    let m4 = on_node (placed_node to_dir to_name) m3 id in
    let m5 = on_node counted_node m4 dir in
    let a = few_on (with_entry to_name id) m to_dir in
    let b = few_on (without_entry name) m1 dir in
    let c = few_over stays m2 replaced in
    let d = few_on (placed_node to_dir to_name) m3 id in
    let e = few_on counted_node m4 dir in
    let f = few_on counted_node m5 to_dir in
    omega (arith, a, b, c, d, e, f)

moved_index : (m : IndexedRows) (dir : ℕ) (name : List ℕ) (to_dir : ℕ) (to_name : List ℕ) (id : ℕ) (replaced : Option ℕ) (stays : Bool) (k : IndexedRow) → get m to_dir ≡ Some k → (d : ℕ)
    → index_in (get (moved m dir name to_dir to_name id replaced stays) d)
    ≡ bared_over stays replaced d (cond (d == dir) (remove (cond (d == to_dir) (insert (index_in (get m d)) to_name id) (index_in (get m d))) name) (cond (d == to_dir) (insert (index_in (get m d)) to_name id) (index_in (get m d))))
moved_index m dir name to_dir to_name id replaced stays k there d =
    let m1 = on_node (with_entry to_name id) m to_dir in
    let m2 = on_node (without_entry name) m1 dir in
    let m3 = left_over stays m2 replaced in
    let m4 = on_node (placed_node to_dir to_name) m3 id in
    let m5 = on_node counted_node m4 dir in
    index_of counted_node m5 to_dir d (λ k. refl) ∙ index_of counted_node m4 dir d (λ k. refl) ∙ index_of (placed_node to_dir to_name) m3 id d (λ k. refl)
    ∙ index_over stays m2 replaced d
    ∙ ap (bared_over stays replaced d) (index_dropped name m1 dir d ∙ ap (λ i. cond (d == dir) (remove i name) i) (index_entered to_name id m to_dir d k there))

pub after_move : (m : IndexedRows) → AreIndexed m → (dir : ℕ) (name : List ℕ) (to_dir : ℕ) (to_name : List ℕ) (id : ℕ) (is_dir : Bool) (replaced : Option ℕ) (stays : Bool)
    → IsTrue (applies (rows_in m) (Move dir name to_dir to_name id is_dir replaced stays))
    → After m (Move dir name to_dir to_name id is_dir replaced stays) (moved m dir name to_dir to_name id replaced stays)
after_move m k dir name to_dir to_name id is_dir replaced stays h =
    let t = rows_in m in
    let u = Move dir name to_dir to_name id is_dir replaced stays in
    let fit : Fits t u = (applies_fits t u k.tree).0 h in
    let target = there_of m to_dir (get m to_dir) refl fit.2 in
    let places = λ (y : ℕ). cond (y == id) (Some (to_dir, to_name)) (cond (is_that replaced y) None (place_of t y)) in
    let indexes = λ (d : ℕ). cond (d == dir) (remove (cond (d == to_dir) (insert (index_in (get m d)) to_name id) (index_in (get m d))) name) (cond (d == to_dir) (insert (index_in (get m d)) to_name id) (index_in (get m d))) in
    let told : Tells places indexes = tells_move (place_of t) (λ d. index_in (get m d)) (kept_told m k) id dir to_dir name to_name replaced fit.0 (that_false replaced id fit.3)
    (is_that_one t k.tree to_dir to_name is_dir replaced fit.4) (that_is t to_dir to_name is_dir replaced fit.4) in
    kept_after m (moved m dir name to_dir to_name id replaced stays) u k fit (moved_rows m dir name to_dir to_name id is_dir replaced stays) (moved_few m dir name to_dir to_name id replaced stays)
    places (λ d. bared_over stays replaced d (indexes d))
    (tells_over stays replaced places indexes told (λ x is. bare_moved t k.tree id to_dir to_name replaced x (file_replaced t to_dir to_name is_dir replaced fit.4 x is) fit.2))
    (placed_move t dir name to_dir to_name id is_dir replaced stays fit.1 fit.3)
    (moved_index m dir name to_dir to_name id replaced stays target.0 target.1)
