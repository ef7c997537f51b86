-- The entries of a directory after one row is put in or changed.
use Rattle.std.proofs.Common.{◌≡◌, ℕ, List, [], ◌∷◌, refl, sym, ap, subst, ◌∙◌, ◌≤◌, ◌+◌, suc, arith}
use Rattle.std.proofs.lemmas.Option.{same_Some}
use Rattle.std.specs.Prelude.{Bool, true, false, cond, T, ◌&&◌, length, is_none}
use Rattle.std.specs.declared.option.Option.{Option}
use Rattle.std.specs.declared.option.Option.TheVariants.{None, Some}
use Rattle.std.specs.declared.cmp.Ordering.{Ordering}
use Rattle.std.specs.declared.cmp.Ordering.TheVariants.{Less, Equal, Greater}
use Rattle.std.specs.Ordering.{nat_cmp, eq_by_cmp, is_lt, is_eq}
use Rattle.std.specs.Cmp.{nat_cmp_total}
use Rattle.std.specs.Cmp.Lexicographic.{slice_cmp}
use Rattle.std.proofs.lemmas.Cmp.{nat_list_cmp_total}
use Rattle.std.proofs.lemmas.Bool.{and_parts}
use Rattle.std.specs.FinMap.{get, insert, empty, find, put, is_sorted, entries, entries_sorted, from_entries, same_map, get-insert, get-from_entries, get-entries, entries-insert, len-empty, len-entries, len, len-insert}
use Rattle.std.specs.FinMap.Entries.{below_all, by_order}
use Rattle.tree_model.specs.declared.rows.Row.{Row}
use Rattle.tree_model.specs.Rows.{Rows}
use Rattle.tree_model.specs.Entries.{is_parent, entries_among, entries_of, entry}
use Rattle.tree_model.proofs.MapView.{tied, bytes_same}

abbrev pub bytes_cmp : List ℕ → List ℕ → Ordering
bytes_cmp = slice_cmp nat_cmp

pub is_less : (o : Ordering) → is_lt o ≡ true → o ≡ Less
is_less Less p = refl
is_less Equal p = absurd (subst T (sym p) tt)
is_less Greater p = absurd (subst T (sym p) tt)

pub is_true : (b : Bool) → T b → b ≡ true
is_true true t = refl
is_true false t = absurd t

-- two tests that don't both pass, in either order
swap_found : {A : Type 0} (a b : Bool) (x y z : A) → (a ≡ true → b ≡ true → ⊥) → cond a x (cond b y z) ≡ cond b y (cond a x z)
swap_found true true x y z h = absurd (h refl refl)
swap_found true false x y z h = refl
swap_found false b x y z h = refl

-- a look-up that finds nothing passes the first entry by
pub passed : {A : Type 0} (b : Bool) (x : A) (o : Option A) → cond b (Some x) o ≡ None → (b ≡ false) × (o ≡ None)
passed true x o e = absurd (cc)
passed false x o e = (refl, e)

none_above : (x y : ℕ) (es : List (ℕ × Row)) → nat_cmp x y ≡ Less → below_all nat_cmp y es ≡ true → find nat_cmp x es ≡ None
none_above x y [] p h = refl
none_above x y (e ∷ es) p h =
    let parts = and_parts _ _ h in
    let lt : nat_cmp x e.0 ≡ Less = nat_cmp_total.trans x y e.0 p (is_less _ parts.0) in
    ap (λ o. cond (is_eq o) (Some e.1) (find nat_cmp x es)) lt ∙ none_above x y es p parts.1

-- a name can't tie with two names, of which only one ties with a third
same_name_twice : (n a b : List ℕ) → eq_by_cmp bytes_cmp n a ≡ true → eq_by_cmp bytes_cmp n b ≡ true → eq_by_cmp bytes_cmp a b ≡ true
same_name_twice n a b p q = ap (λ z. is_eq (bytes_cmp z b)) (sym (bytes_same n a (tied _ p))) ∙ q

and_true : (a b : Bool) → (a && b) ≡ true → (a ≡ true) × (b ≡ true)
and_true = and_parts

-- ---- a row at a free serial
found_later : (d id : ℕ) (r : Row) (n : List ℕ) (e : ℕ × Row) (es : List (ℕ × Row))
    → ((is_parent r.parent d ≡ true → find bytes_cmp r.name (entries_among d es) ≡ None)
    → find bytes_cmp n (entries_among d (put nat_cmp id r es)) ≡ cond (is_parent r.parent d && eq_by_cmp bytes_cmp n r.name) (Some id) (find bytes_cmp n (entries_among d es)))
    → (is_parent r.parent d ≡ true → find bytes_cmp r.name (entries_among d (e ∷ es)) ≡ None)
    → find bytes_cmp n (entries_among d (e ∷ put nat_cmp id r es)) ≡ cond (is_parent r.parent d && eq_by_cmp bytes_cmp n r.name) (Some id) (find bytes_cmp n (entries_among d (e ∷ es)))
found_later d id r n e es ih vacant =
    let A = entries_among d in
    let F = find bytes_cmp n in
    let mine = is_parent r.parent d && eq_by_cmp bytes_cmp n r.name in
    elim (is_parent e.1.parent d) as (λ b. (is_parent r.parent d ≡ true → find bytes_cmp r.name (cond b ((e.1.name, e.0) ∷ A es) (A es)) ≡ None)
    → F (cond b ((e.1.name, e.0) ∷ A (put nat_cmp id r es)) (A (put nat_cmp id r es))) ≡ cond mine (Some id) (F (cond b ((e.1.name, e.0) ∷ A es) (A es)))) [
      | true ↦ λ v.
          ap (cond (eq_by_cmp bytes_cmp n e.1.name) (Some e.0)) (ih (λ h. (passed _ _ _ (v h)).1))
          ∙ swap_found (eq_by_cmp bytes_cmp n e.1.name) mine (Some e.0) (Some id) (F (A es))
          (λ p q. let both = and_true _ _ q in subst T (sym (same_name_twice n r.name e.1.name both.1 p) ∙ (passed _ _ _ (v both.0)).0) tt)
      | false ↦ λ v. ih v
    ] vacant

found_new : (d id : ℕ) (r : Row) (n : List ℕ) (es : List (ℕ × Row)) → find nat_cmp id es ≡ None
    → (is_parent r.parent d ≡ true → find bytes_cmp r.name (entries_among d es) ≡ None)
    → find bytes_cmp n (entries_among d (put nat_cmp id r es)) ≡ cond (is_parent r.parent d && eq_by_cmp bytes_cmp n r.name) (Some id) (find bytes_cmp n (entries_among d es))
found_new d id r n [] free vacant =
    elim (is_parent r.parent d) as (λ b. find bytes_cmp n (cond b ((r.name, id) ∷ []) []) ≡ cond (b && eq_by_cmp bytes_cmp n r.name) (Some id) None) [ true ↦ refl | false ↦ refl ]
found_new d id r n (e ∷ es) free vacant =
    let A = entries_among d in
    let G = λ (l : List (ℕ × Row)). find bytes_cmp n (A l) ≡ cond (is_parent r.parent d && eq_by_cmp bytes_cmp n r.name) (Some id) (find bytes_cmp n (A (e ∷ es))) in
    elim (nat_cmp id e.0) as (λ o. nat_cmp id e.0 ≡ o → G (by_order o ((id, r) ∷ e ∷ es) ((e.0, r) ∷ es) (e ∷ put nat_cmp id r es))) [
      | Less ↦ λ p.
          elim (is_parent r.parent d) as (λ b. find bytes_cmp n (cond b ((r.name, id) ∷ A (e ∷ es)) (A (e ∷ es))) ≡ cond (b && eq_by_cmp bytes_cmp n r.name) (Some id) (find bytes_cmp n (A (e ∷ es)))) [ true ↦ refl | false ↦ refl ]
      | Equal ↦ λ p. absurd (subst T (sym (ap is_eq p) ∙ (passed _ _ _ free).0) tt)
      | Greater ↦ λ p. found_later d id r n e es (found_new d id r n es (passed _ _ _ free).1) vacant
    ] refl

-- ---- a row that changes and stays where it stands
kept_list : (d x : ℕ) (was r : Row) (es : List (ℕ × Row)) → is_sorted nat_cmp es ≡ true → find nat_cmp x es ≡ Some was → r.parent ≡ was.parent → r.name ≡ was.name
    → entries_among d (put nat_cmp x r es) ≡ entries_among d es
kept_list d x was r [] s is p q = absurd (subst T (ap is_none is) tt)
kept_list d x was r (e ∷ es) s is p q =
    let A = entries_among d in
    let parts = and_parts _ _ s in
    elim (nat_cmp x e.0) as (λ o. nat_cmp x e.0 ≡ o → A (by_order o ((x, r) ∷ e ∷ es) ((e.0, r) ∷ es) (e ∷ put nat_cmp x r es)) ≡ A (e ∷ es)) [
      | Less ↦ λ lt.
          let none : find nat_cmp x (e ∷ es) ≡ None = ap (λ o. cond (is_eq o) (Some e.1) (find nat_cmp x es)) lt ∙ none_above x e.0 es lt parts.0 in
          absurd (subst T (ap is_none (sym none ∙ is)) tt)
      | Equal ↦ λ eq.
          let same : e.1 ≡ was = same_Some e.1 was (sym (ap (λ o. cond (is_eq o) (Some e.1) (find nat_cmp x es)) eq) ∙ is) in
          ap (λ o. cond (is_parent o d) ((r.name, e.0) ∷ A es) (A es)) (p ∙ ap (λ z. z.parent) (sym same))
          ∙ ap (λ n. cond (is_parent e.1.parent d) ((n, e.0) ∷ A es) (A es)) (q ∙ ap (λ z. z.name) (sym same))
      | Greater ↦ λ gt.
          let rest : find nat_cmp x es ≡ Some was = sym (ap (λ o. cond (is_eq o) (Some e.1) (find nat_cmp x es)) gt) ∙ is in
          ap (λ l. cond (is_parent e.1.parent d) ((e.1.name, e.0) ∷ l) l) (kept_list d x was r es parts.1 rest p q)
    ] refl

-- ---- the entries of a directory
pub entry_found : (t : Rows) (d : ℕ) (n : List ℕ) → entry t d n ≡ find bytes_cmp n (entries_among d (entries t))
entry_found t d n = get-from_entries nat_list_cmp_total (entries_among d (entries t)) n

pub index_new : (t : Rows) (id : ℕ) (r : Row) (d : ℕ) → get t id ≡ None → (is_parent r.parent d ≡ true → entry t d r.name ≡ None)
    → entries_of (insert t id r) d ≡ cond (is_parent r.parent d) (insert (entries_of t d) r.name id) (entries_of t d)
index_new t id r d free vacant =
    let found = λ (n : List ℕ). entry_found (insert t id r) d n ∙ ap (λ l. find bytes_cmp n (entries_among d l)) (entries-insert nat_cmp_total t id r)
    ∙ found_new d id r n (entries t) (sym (get-entries t id) ∙ free) (λ h. sym (entry_found t d r.name) ∙ vacant h)
    ∙ ap (cond (is_parent r.parent d && eq_by_cmp bytes_cmp n r.name) (Some id)) (sym (entry_found t d n)) in
    same_map nat_list_cmp_total bytes_same _ _ (λ n. found n
    ∙ elim (is_parent r.parent d) as (λ b. cond (b && eq_by_cmp bytes_cmp n r.name) (Some id) (entry t d n) ≡ get (cond b (insert (entries_of t d) r.name id) (entries_of t d)) n) [
      | true ↦ sym (get-insert nat_list_cmp_total (entries_of t d) r.name id n)
      | false ↦ refl
    ])

pub index_same : (t : Rows) (x : ℕ) (was r : Row) (d : ℕ) → get t x ≡ Some was → r.parent ≡ was.parent → r.name ≡ was.name → entries_of (insert t x r) d ≡ entries_of t d
index_same t x was r d is p q =
    ap (λ l. from_entries (entries_among d l)) (entries-insert nat_cmp_total t x r)
    ∙ ap from_entries (kept_list d x was r (entries t) (is_true _ (entries_sorted t)) (sym (get-entries t x) ∙ is) p q)

pub no_entries : {A : Type 0} (es : List A) → length es ≡ 0 → es ≡ []
no_entries [] e = refl
no_entries (x ∷ es) e = absurd (omega arith)

pub index_empty : (d : ℕ) → entries_of empty d ≡ empty
index_empty d = ap (λ l. from_entries (entries_among d l)) (no_entries (entries empty) (sym (len-entries empty) ∙ len-empty nat_cmp Row))

-- ---- a directory has at most as many entries as there are rows
among_small : (d : ℕ) (es : List (ℕ × Row)) → length (entries_among d es) ≤ length es
among_small d [] = omega arith
among_small d (e ∷ es) =
    let ih = among_small d es in
    elim (is_parent e.1.parent d) as (λ b. length (cond b ((e.1.name, e.0) ∷ entries_among d es) (entries_among d es)) ≤ suc (length es)) [ true ↦ omega arith | false ↦ omega arith ]

one_more : (b : Bool) (n k : ℕ) → n ≤ k → cond b n (n + 1) ≤ suc k
one_more true n k h = omega arith
one_more false n k h = omega arith

made_small : (es : List (List ℕ × ℕ)) → len (from_entries {R = bytes_cmp} es) ≤ length es
made_small [] = let z = len-empty bytes_cmp ℕ in omega arith
made_small (e ∷ es) =
    subst (λ n. n ≤ suc (length es)) (sym (len-insert nat_list_cmp_total (from_entries es) e.0 e.1)) (one_more _ (len (from_entries {R = bytes_cmp} es)) (length es) (made_small es))

pub index_small : (t : Rows) (d : ℕ) → len (entries_of t d) ≤ len t
index_small t d =
    let a = made_small (entries_among d (entries t)) in
    let b = among_small d (entries t) in
    let c = len-entries t in
    omega arith
