-- The serials of a small table, computed: `/a` is directory 6, `/b` is directory 2 and `/b/f` file 3, and 4 is a gone file.
-- In preorder, names in byte order, the inodes are 0, 6, 2 and 3, and the gone file comes last.
use Rattle.std.proofs.Common.{◌≡◌, ℕ, List, [], ◌∷◌, ◌++◌, length, get_or, refl, sym, ap, ◌∙◌, inl, inr, arith}
use Rattle.std.proofs.Math.Path.{ap₂}
use Rattle.std.specs.Prelude.{Bool, true, false, cond, Option, Some, None, flat_map}
use Rattle.std.specs.Ordering.{nat_cmp, eq_by_cmp}
use Rattle.std.specs.Cmp.{nat_cmp_total, unsigned_tied}
use Rattle.std.specs.Cmp.Lexicographic.{slice_cmp}
use Rattle.std.proofs.lemmas.Cmp.{nat_list_cmp_total}
use Rattle.std.proofs.lemmas.Bool.{cases_eq, eq-eqb, ne_eqb}
use Rattle.std.specs.FinMap.{FinMap, get, insert, remove, empty, entries, len, put, from_entries, same_map, get-empty, get-insert, get-remove, get-from_entries, entries-insert, len-entries, len-empty, nat_cmp-IsAntisymmetric, slice_cmp-IsAntisymmetric}
use Rattle.tree_model.specs.declared.rows.Body.TheVariants.{Dir, File}
use Rattle.tree_model.specs.declared.rows.Row.{Row}
use Rattle.tree_model.specs.Rows.{Rows}
use Rattle.tree_model.specs.Entries.{children, entries_among}
use Rattle.tree_model.proofs.MapView.{tied, bytes_same}
use Rattle.image_model.specs.Volumes.{Table}
use Rattle.image_model.specs.Trees.{by_inodes, preorder, inodes_of}
use Rattle.image_model.proofs.Examples.{table, used, attrs, slot_of, contents}

-- ---- maps

no_items : {X : Type 0} (xs : List X) → length xs ≡ 0 → xs ≡ []
no_items [] e = refl
no_items (x ∷ xs) e = absurd (omega arith)

remove_absent : (m : Rows) (k : ℕ) → get m k ≡ None → remove m k ≡ m
remove_absent m k none = same_map nat_cmp_total nat_cmp-IsAntisymmetric (remove m k) m
    (λ q. get-remove nat_cmp_total m k q ∙ ap (λ b. cond b None (get m q)) (unsigned_tied q k) ∙ elim (cases_eq q k) [
      | inl same ↦ ap (λ b. cond b None (get m q)) (eq-eqb q k same) ∙ sym (ap (get m) same ∙ none)
      | inr other ↦ ap (λ b. cond b None (get m q)) (ne_eqb q k other)
    ])

abbrev Index : Type 0
Index = FinMap (slice_cmp nat_cmp) ℕ

index_same : (m n : Index) → ((q : List ℕ) → get m q ≡ get n q) → m ≡ n
index_same m n same = same_map nat_list_cmp_total (slice_cmp-IsAntisymmetric nat_cmp-IsAntisymmetric) m n same

abbrev index_of : List (List ℕ × ℕ) → Index
index_of es = from_entries es

abbrev no_index : Index
no_index = empty

nothing : entries no_index ≡ []
nothing = no_items (entries no_index) (sym (len-entries no_index) ∙ len-empty (slice_cmp nat_cmp) ℕ)

none_listed : entries (index_of []) ≡ []
none_listed =
    ap entries (index_same (index_of []) no_index (λ q. get-from_entries nat_list_cmp_total [] q ∙ sym (get-empty (slice_cmp nat_cmp) q))) ∙ nothing

one_listed : (name : List ℕ) (i : ℕ) → entries (index_of ((name, i) ∷ [])) ≡ (name, i) ∷ []
one_listed name i =
    ap entries (index_same (index_of ((name, i) ∷ [])) (insert no_index name i)
    (λ q. get-from_entries nat_list_cmp_total ((name, i) ∷ []) q
    ∙ sym (get-insert nat_list_cmp_total no_index name i q ∙ ap (λ o. cond (eq_by_cmp (slice_cmp nat_cmp) q name) (Some i) o) (get-empty (slice_cmp nat_cmp) q))))
    ∙ entries-insert nat_list_cmp_total no_index name i ∙ ap (put (slice_cmp nat_cmp) name i) nothing

swapped : (x y : Bool) (p q r : Option ℕ) → (x ≡ true → y ≡ true → ⊥) → cond x p (cond y q r) ≡ cond y q (cond x p r)
swapped true true p q r h = absurd (h refl refl)
swapped true false p q r h = refl
swapped false y p q r h = refl

not_both : (q : List ℕ) → eq_by_cmp (slice_cmp nat_cmp) q (98 ∷ []) ≡ true → eq_by_cmp (slice_cmp nat_cmp) q (97 ∷ []) ≡ true → ⊥
not_both q x y =
    let z : ◌≡◌ {A = List ℕ} (98 ∷ []) (97 ∷ []) = sym (bytes_same q (98 ∷ []) (tied _ x)) ∙ bytes_same q (97 ∷ []) (tied _ y) in
    let first : ◌≡◌ {A = ℕ} 98 97 = ap (λ l. get_or l 0 0) z in
    omega arith

abbrev of_b : Index
of_b = insert no_index (98 ∷ []) 2

-- two names, the later one first
two_listed : entries (index_of ((98 ∷ [], 2) ∷ (97 ∷ [], 6) ∷ [])) ≡ (97 ∷ [], 6) ∷ (98 ∷ [], 2) ∷ []
two_listed =
    ap entries (index_same (index_of ((98 ∷ [], 2) ∷ (97 ∷ [], 6) ∷ [])) (insert of_b (97 ∷ []) 6)
    (λ q. get-from_entries nat_list_cmp_total ((98 ∷ [], 2) ∷ (97 ∷ [], 6) ∷ []) q
    ∙ swapped (eq_by_cmp (slice_cmp nat_cmp) q (98 ∷ [])) (eq_by_cmp (slice_cmp nat_cmp) q (97 ∷ [])) (Some 2) (Some 6) None (not_both q)
    ∙ sym (get-insert nat_list_cmp_total of_b (97 ∷ []) 6 q
    ∙ ap (λ o. cond (eq_by_cmp (slice_cmp nat_cmp) q (97 ∷ [])) (Some 6) o)
    (get-insert nat_list_cmp_total no_index (98 ∷ []) 2 q ∙ ap (λ o. cond (eq_by_cmp (slice_cmp nat_cmp) q (98 ∷ [])) (Some 2) o) (get-empty (slice_cmp nat_cmp) q)))))
    ∙ entries-insert nat_list_cmp_total of_b (97 ∷ []) 6
    ∙ ap (put (slice_cmp nat_cmp) (97 ∷ []) 6) (entries-insert nat_list_cmp_total no_index (98 ∷ []) 2 ∙ ap (put (slice_cmp nat_cmp) (98 ∷ []) 2) nothing)

-- ---- the table

abbrev sample : Table
sample = table used attrs (None ∷ None ∷ slot_of 0 (98 ∷ []) ∷ slot_of 2 (102 ∷ []) ∷ slot_of 1 (35 ∷ 52 ∷ []) ∷ None ∷ slot_of 0 (97 ∷ []) ∷ [])

abbrev rows : Rows
rows = by_inodes sample contents

abbrev root : Row
root = record { parent = None; name = []; body = Dir 7 }

abbrev b : Row
b = record { parent = Some 0; name = 98 ∷ []; body = Dir 7 }

abbrev f : Row
f = record { parent = Some 2; name = 102 ∷ []; body = File (3 ∷ []) }

abbrev g : Row
g = record { parent = None; name = []; body = File (4 ∷ []) }

abbrev a : Row
a = record { parent = Some 0; name = 97 ∷ []; body = Dir 7 }

abbrev first_row : Rows
first_row = insert empty 0 root

abbrev fourth_row : Rows
fourth_row = insert (insert (insert first_row 2 b) 3 f) 4 g

none_at_one : get first_row 1 ≡ None
none_at_one = get-insert nat_cmp_total empty 0 root 1 ∙ get-empty nat_cmp 1

none_at_five : get fourth_row 5 ≡ None
none_at_five = get-insert nat_cmp_total (insert (insert first_row 2 b) 3 f) 4 g 5 ∙ get-insert nat_cmp_total (insert first_row 2 b) 3 f 5
    ∙ get-insert nat_cmp_total first_row 2 b 5 ∙ get-insert nat_cmp_total empty 0 root 5 ∙ get-empty nat_cmp 5

its_rows : rows ≡ insert fourth_row 6 a
its_rows =
    ap (λ m. insert (remove (insert (insert (insert m 2 b) 3 f) 4 g) 5) 6 a) (remove_absent first_row 1 none_at_one)
    ∙ ap (λ m. insert m 6 a) (remove_absent fourth_row 5 none_at_five)

its_entries : entries rows ≡ (0, root) ∷ (2, b) ∷ (3, f) ∷ (4, g) ∷ (6, a) ∷ []
its_entries =
    ap entries its_rows ∙ entries-insert nat_cmp_total fourth_row 6 a
    ∙ ap (put nat_cmp 6 a) (entries-insert nat_cmp_total (insert (insert first_row 2 b) 3 f) 4 g
    ∙ ap (put nat_cmp 4 g) (entries-insert nat_cmp_total (insert first_row 2 b) 3 f
    ∙ ap (put nat_cmp 3 f) (entries-insert nat_cmp_total first_row 2 b
    ∙ ap (put nat_cmp 2 b) (entries-insert nat_cmp_total empty 0 root
    ∙ ap (put nat_cmp 0 root) (no_items (entries empty) (sym (len-entries empty) ∙ len-empty nat_cmp Row))))))

five_rows : len rows ≡ 5
five_rows = len-entries rows ∙ ap length its_entries

below : (d : ℕ) (es : List (List ℕ × ℕ)) → entries (index_of (entries_among d ((0, root) ∷ (2, b) ∷ (3, f) ∷ (4, g) ∷ (6, a) ∷ []))) ≡ es → children rows d ≡ es
below d es e = ap (λ l. entries (index_of (entries_among d l))) its_entries ∙ e

below_file : preorder 3 rows 3 ≡ 3 ∷ []
below_file = ap (λ es. 3 ∷ flat_map (λ e. preorder 2 rows e.1) es) (below 3 [] none_listed)

below_b : preorder 4 rows 2 ≡ 2 ∷ 3 ∷ []
below_b = ap (λ es. 2 ∷ flat_map (λ e. preorder 3 rows e.1) es) (below 2 ((102 ∷ [], 3) ∷ []) (one_listed (102 ∷ []) 3)) ∙ ap (λ l. 2 ∷ (l ++ [])) below_file

below_a : preorder 4 rows 6 ≡ 6 ∷ []
below_a = ap (λ es. 6 ∷ flat_map (λ e. preorder 3 rows e.1) es) (below 6 [] none_listed)

all_below : preorder 5 rows 0 ≡ 0 ∷ 6 ∷ 2 ∷ 3 ∷ []
all_below = ap (λ es. 0 ∷ flat_map (λ e. preorder 4 rows e.1) es) (below 0 ((97 ∷ [], 6) ∷ (98 ∷ [], 2) ∷ []) two_listed)
    ∙ ap₂ (λ l m. 0 ∷ (l ++ (m ++ []))) below_a below_b

its_inodes : inodes_of sample contents ≡ 0 ∷ 6 ∷ 2 ∷ 3 ∷ 4 ∷ []
its_inodes = ap (λ n. preorder n rows 0 ++ 4 ∷ []) five_rows ∙ ap (λ l. l ++ 4 ∷ []) all_below
