-- The finite map that a `BTreeMap` stands for.
use Rattle.std.proofs.Common.{◌≡◌, List, [], ◌∷◌, ◌++◌, refl, sym, ap, subst, ◌∙◌}
use Rattle.std.specs.Prelude.{true, false, cond, T, map, length, is_some}
use Rattle.std.specs.declared.option.Option.TheVariants.{None, Some}
use Rattle.std.specs.declared.cmp.Ordering.{Ordering}
use Rattle.std.specs.declared.cmp.Ordering.TheVariants.{Less, Equal, Greater}
use Rattle.std.specs.Ordering.{nat_cmp, eq_by_cmp, is_lt, is_eq}
use Rattle.std.specs.Cmp.{IsTotalOrder, eq_by_cmp_equiv}
use Rattle.std.specs.Cmp.Lexicographic.{slice_cmp}
use Rattle.std.specs.Map.{lookup}
use Rattle.std.specs.BTreeMap.{BTreeMap, is_at, get_by, WritesThrough}
use Rattle.std.specs.List.{AllByRecursion}
use Rattle.std.specs.List.Sorted.{IsStrictlySortedBy}
use Rattle.std.proofs.lemmas.Bool.{and_parts, and_from}
use Rattle.std.specs.FinMap.{FinMap, IsAntisymmetric, get, insert, remove, empty, find, len, entries, from_entries, from_sorted, is_sorted, same_map, get-insert, get-remove, get-from_entries, get-from_sorted, entries-from_sorted, len-entries, nat_cmp-IsAntisymmetric, slice_cmp-IsAntisymmetric}

pub tied : (o : Ordering) → is_eq o ≡ true → o ≡ Equal
tied Less p = absurd (subst T (sym p) tt)
tied Equal p = refl
tied Greater p = absurd (subst T (sym p) tt)

-- only equal names tie
pub bytes_same : IsAntisymmetric (slice_cmp nat_cmp)
bytes_same = slice_cmp-IsAntisymmetric nat_cmp-IsAntisymmetric

module _ {K X : Type 0} (R : K → K → Ordering) where
  find_lookup : (es : List (K × X)) (q : K) → find R q es ≡ lookup (is_at (R q)) es
  find_lookup [] q = refl
  find_lookup (e ∷ es) q = ap (cond (is_at (R q) e.0) (Some e.1)) (find_lookup es q)

  sorted_front : (x : K) (r : X) (es : List (K × X)) → AllByRecursion (λ y. R x y ≡ Less) (map (λ e. e.0) es) → is_sorted R es ≡ true → is_sorted R ((x, r) ∷ es) ≡ true
  sorted_front x r [] a s = refl
  sorted_front x r (e ∷ es) a s =
      let rest : is_sorted R es ≡ true = (and_parts _ _ s).1 in
      let ih = sorted_front x r es a.1 rest in
      and_from _ _ (and_from _ _ (ap is_lt a.0) (and_parts _ _ ih).0) s

  pub sorted_from_ordered : (es : List (K × X)) → IsStrictlySortedBy R (map (λ e. e.0) es) → is_sorted R es ≡ true
  unfolding IsStrictlySortedBy
  sorted_from_ordered [] o = refl
  sorted_from_ordered (e ∷ es) o = sorted_front e.0 e.1 es o.0 (sorted_from_ordered es o.1)

module _ {K X : Type 0} {R : K → K → Ordering} (o : IsTotalOrder R) where
  pub get_view : (es : List (K × X)) (q : K) → get (from_entries {R = R} es) q ≡ lookup (is_at (R q)) es
  get_view es q = get-from_entries o es q ∙ find_lookup R es q

module _ {K X : Type 0} {R : K → K → Ordering} (o : IsTotalOrder R) (same : IsAntisymmetric R) where
  -- an entry put in
  pub inserted_view : (es fs : List (K × X)) (k : K) (v : X) → ((q : K) → lookup (is_at (R q)) fs ≡ cond (is_at (R k) q) (Some v) (lookup (is_at (R q)) es)) → from_entries {R = R} fs ≡ insert (from_entries es) k v
  inserted_view es fs k v h = same_map o same _ _ (λ q.
      get_view o fs q ∙ h q ∙ ap (λ b. cond b (Some v) (lookup (is_at (R q)) es)) ((eq_by_cmp_equiv o).symm k q)
      ∙ sym (get-insert o (from_entries es) k v q ∙ ap (cond (eq_by_cmp R q k) (Some v)) (get_view o es q)))

  -- an entry taken out
  pub removed_view : (es fs : List (K × X)) (k : K) → ((q : K) → lookup (is_at (R q)) fs ≡ cond (is_at (R k) q) None (lookup (is_at (R q)) es)) → from_entries {R = R} fs ≡ remove (from_entries es) k
  removed_view es fs k h = same_map o same _ _ (λ q.
      get_view o fs q ∙ h q ∙ ap (λ b. cond b None (lookup (is_at (R q)) es)) ((eq_by_cmp_equiv o).symm k q)
      ∙ sym (get-remove o (from_entries es) k q ∙ ap (cond (eq_by_cmp R q k) None) (get_view o es q)))

  -- a value written through what `get_mut` lent
  pub written_view : (m n : BTreeMap K X) (k : K) (was w : X) → get_by (R k) m ≡ Some was → WritesThrough R (R k) m w n → from_entries {R = R} n.entries ≡ insert (from_entries m.entries) k w
  written_view m n k was w is h = inserted_view m.entries n.entries k w ((h.3 (ap (λ o. is_some o) is)).0)

  -- what stands there already, put in once more
  pub insert_same : (m : FinMap R X) (k : K) (v : X) → get m k ≡ Some v → insert m k v ≡ m
  insert_same m k v is = same_map o same _ _ (λ q. get-insert o m k v q
      ∙ elim (eq_by_cmp R q k) as (λ b. eq_by_cmp R q k ≡ b → cond b (Some v) (get m q) ≡ get m q) [
        | true ↦ λ p. sym (ap (get m) (same q k (tied _ p)) ∙ is)
        | false ↦ λ p. refl
      ] refl)

  -- what was put in at a free key, taken out
  pub remove_put : (m : FinMap R X) (k : K) (v : X) → get m k ≡ None → remove (insert m k v) k ≡ m
  remove_put m k v is = same_map o same _ _ (λ q. get-remove o (insert m k v) k q
      ∙ elim (eq_by_cmp R q k) as (λ b. eq_by_cmp R q k ≡ b → cond b None (get (insert m k v) q) ≡ get m q) [
        | true ↦ λ p. sym (ap (get m) (same q k (tied _ p)) ∙ is)
        | false ↦ λ p. get-insert o m k v q ∙ ap (λ b. cond b (Some v) (get m q)) p
      ] refl)

  -- the entries in order are those of the finite map
  pub entries_view : (es : List (K × X)) → IsStrictlySortedBy R (map (λ e. e.0) es) → entries (from_entries {R = R} es) ≡ es
  entries_view es ord =
      let s : T (is_sorted R es) = subst T (sym (sorted_from_ordered R es ord)) tt in
      let is : from_entries {R = R} es ≡ from_sorted es = same_map o same _ _ (λ q. get-from_entries o es q ∙ sym (get-from_sorted R es q s)) in
      ap entries is ∙ entries-from_sorted R es s

  pub len_view : (es : List (K × X)) → IsStrictlySortedBy R (map (λ e. e.0) es) → len (from_entries {R = R} es) ≡ length es
  len_view es ord = len-entries (from_entries {R = R} es) ∙ ap length (entries_view es ord)

-- the map with entries put in, from the last to the first
abbrev pub onto : {K X : Type 0} {R : K → K → Ordering} → FinMap R X → List (K × X) → FinMap R X
onto m [] = m
onto m (e ∷ es) = insert (onto m es) e.0 e.1

pub onto_last : {K X : Type 0} {R : K → K → Ordering} (m : FinMap R X) (es : List (K × X)) (k : K) (v : X) → onto m (es ++ (k, v) ∷ []) ≡ onto (insert m k v) es
onto_last m [] k v = refl
onto_last m (e ∷ es) k v = ap (λ z. insert z e.0 e.1) (onto_last m es k v)

pub onto_empty : {K X : Type 0} {R : K → K → Ordering} (es : List (K × X)) → onto {R = R} empty es ≡ from_entries es
onto_empty [] = refl
onto_empty (e ∷ es) = ap (λ z. insert z e.0 e.1) (onto_empty es)
