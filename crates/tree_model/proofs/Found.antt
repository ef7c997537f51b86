-- What the entries of a directory say of the rows.
use Rattle.std.proofs.Common.{◌≡◌, ℕ, List, [], ◌∷◌, refl, sym, ap, subst, ◌∙◌}
use Rattle.std.specs.Prelude.{Bool, true, false, cond, T, is_none, ◌↔◌}
use Rattle.std.specs.declared.option.Option.{Option}
use Rattle.std.specs.declared.option.Option.TheVariants.{None, Some}
use Rattle.std.specs.Ordering.{nat_cmp, eq_by_cmp, is_eq}
use Rattle.std.specs.Cmp.{unsigned_tied}
use Rattle.std.proofs.lemmas.Cmp.{nat_list_cmp_total, tied_itself}
use Rattle.std.proofs.lemmas.Bool.{and_parts, eqb-true, eq-eqb}
use Rattle.std.proofs.lemmas.Option.{same_Some, some_pair_parts}
use Rattle.std.specs.FinMap.{get, find, is_sorted, entries, entries_sorted, get-entries}
use Rattle.std.specs.FinMap.Entries.{below_all}
use Rattle.tree_model.specs.declared.rows.Row.{Row}
use Rattle.tree_model.specs.Rows.{Rows, spot, place, IsEntry, IsVacant, IsTree}
use Rattle.tree_model.specs.Entries.{is_parent, entries_among, entry}
use Rattle.tree_model.proofs.MapView.{tied, bytes_same}
use Rattle.tree_model.proofs.Index.{bytes_cmp, is_true, is_less, passed, entry_found}

none_some : {A : Type 0} (x : A) → None ≡ Some x → ⊥
none_some x e = subst T (ap is_none e) tt

no_more : (b : Bool) → b ≡ true → b ≡ false → ⊥
no_more b p q = subst T (sym p ∙ q) tt

-- a list of rows above y has no row y
none_below : (y : ℕ) (es : List (ℕ × Row)) → below_all nat_cmp y es ≡ true → find nat_cmp y es ≡ None
none_below y [] h = refl
none_below y (e ∷ es) h =
    let p = and_parts _ _ h in
    ap (λ o. cond (is_eq o) (Some e.1) (find nat_cmp y es)) (is_less _ p.0) ∙ none_below y es p.1

apart_below : (x y : ℕ) (r : Row) (es : List (ℕ × Row)) → below_all nat_cmp y es ≡ true → find nat_cmp x es ≡ Some r → eq_by_cmp nat_cmp x y ≡ false
apart_below x y r es h is =
    elim (eq_by_cmp nat_cmp x y) as (λ b. eq_by_cmp nat_cmp x y ≡ b → b ≡ false) [
      | true ↦ λ p. absurd (none_some r (sym (none_below y es h) ∙ ap (λ z. find nat_cmp z es) (sym (eqb-true x y (sym (unsigned_tied x y) ∙ p))) ∙ is))
      | false ↦ λ p. refl
    ] refl

parent_is : (o : Option ℕ) (d : ℕ) → is_parent o d ≡ true → o ≡ Some d
parent_is None d h = absurd (subst T (sym h) tt)
parent_is (Some p) d h = ap (λ z. Some z) (eqb-true p d h)

-- a row that stands at a place is found there, or another
none_found : (d : ℕ) (n : List ℕ) (es : List (ℕ × Row)) → find bytes_cmp n (entries_among d es) ≡ None → (x : ℕ) (r : Row) → find nat_cmp x es ≡ Some r → r.parent ≡ Some d → r.name ≡ n → ⊥
none_found d n [] none x r is p q = none_some r is
none_found d n (e ∷ es) none x r is p q =
    let A = entries_among d es in
    let among = find bytes_cmp n in
    elim (eq_by_cmp nat_cmp x e.0) as (λ b. cond b (Some e.1) (find nat_cmp x es) ≡ Some r → ⊥) [
      | true ↦ λ h.
          let same : e.1 ≡ r = same_Some e.1 r h in
          let here : is_parent e.1.parent d ≡ true = ap (λ z. is_parent z.parent d) same ∙ ap (λ o. is_parent o d) p ∙ eq-eqb d d refl in
          let named : eq_by_cmp bytes_cmp n e.1.name ≡ true = ap (λ z. eq_by_cmp bytes_cmp n z) (ap (λ z. z.name) same ∙ q) ∙ ap is_eq (tied_itself nat_list_cmp_total n) in
          none_some e.0 (sym none ∙ ap (λ b. among (cond b ((e.1.name, e.0) ∷ A) A)) here ∙ ap (λ b. cond b (Some e.0) (among A)) named)
      | false ↦ λ h.
          none_found d n es
          (elim (is_parent e.1.parent d) as (λ b. among (cond b ((e.1.name, e.0) ∷ A) A) ≡ None → among A ≡ None) [ true ↦ λ z. (passed _ _ _ z).1 | false ↦ λ z. z ] none)
          x r h p q
    ] is

-- what is found at a place is a row that stands there
pub record StandsIn (d : ℕ) (n : List ℕ) (x : ℕ) (es : List (ℕ × Row)) : Type 0 where
  pub row : Row
  pub is : find nat_cmp x es ≡ Some row
  pub parent : row.parent ≡ Some d
  pub name : row.name ≡ n

found_is : (d : ℕ) (n : List ℕ) (x : ℕ) (es : List (ℕ × Row)) → is_sorted nat_cmp es ≡ true → find bytes_cmp n (entries_among d es) ≡ Some x → StandsIn d n x es
found_is d n x [] s f = absurd (none_some x f)
found_is d n x (e ∷ es) s f =
    let A = entries_among d es in
    let among = find bytes_cmp n in
    let sorted = and_parts _ _ s in
    let later : among A ≡ Some x → StandsIn d n x (e ∷ es) = λ g.
    (let r = found_is d n x es sorted.1 g in
    record { row = r.row; is = ap (λ b. cond b (Some e.1) (find nat_cmp x es)) (apart_below x e.0 r.row es sorted.0 r.is) ∙ r.is; parent = r.parent; name = r.name }) in
    elim (is_parent e.1.parent d) as (λ b. is_parent e.1.parent d ≡ b → among (cond b ((e.1.name, e.0) ∷ A) A) ≡ Some x → StandsIn d n x (e ∷ es)) [
      | true ↦ λ p. elim (eq_by_cmp bytes_cmp n e.1.name) as (λ b. eq_by_cmp bytes_cmp n e.1.name ≡ b → cond b (Some e.0) (among A) ≡ Some x → StandsIn d n x (e ∷ es)) [
        | true ↦ λ q h.
            let same : e.0 ≡ x = same_Some e.0 x h in
            record {
              row = e.1;
              is = ap (λ b. cond b (Some e.1) (find nat_cmp x es)) (unsigned_tied x e.0 ∙ eq-eqb x e.0 (sym same));
              parent = parent_is e.1.parent d p;
              name = sym (bytes_same n e.1.name (tied _ q));
            }
        | false ↦ λ q h. later h
      ] refl
      | false ↦ λ p h. later h
    ] refl f

-- ---- over the rows
pub entry_stands : (t : Rows) (d : ℕ) (n : List ℕ) (x : ℕ) → entry t d n ≡ Some x → IsEntry t d n x
entry_stands t d n x e =
    let s = found_is d n x (entries t) (is_true _ (entries_sorted t)) (sym (entry_found t d n) ∙ e) in
    ap place (get-entries t x ∙ s.is) ∙ ap (λ o. spot o s.row.name) s.parent ∙ ap (λ m. Some (d, m)) s.name

parts_of : (o : Option ℕ) (m : List ℕ) (d : ℕ) (n : List ℕ) → spot o m ≡ Some (d, n) → (o ≡ Some d) × (m ≡ n)
parts_of None m d n e = absurd (none_some (d, n) e)
parts_of (Some p) m d n e = let q = some_pair_parts p d m n e in (ap (λ z. Some z) q.0, q.1)

no_stand : (t : Rows) (d : ℕ) (n : List ℕ) → entry t d n ≡ None → (x : ℕ) (o : Option Row) → get t x ≡ o → place o ≡ Some (d, n) → ⊥
no_stand t d n none x None is e = none_some (d, n) e
no_stand t d n none x (Some r) is e =
    let p = parts_of r.parent r.name d n e in
    none_found d n (entries t) (sym (entry_found t d n) ∙ none) x r (sym (get-entries t x) ∙ is) p.0 p.1

pub vacant_none : (t : Rows) (d : ℕ) (n : List ℕ) → entry t d n ≡ None → IsVacant t d n
vacant_none t d n none x e = no_stand t d n none x (get t x) refl e

vacant_go : (t : Rows) (d : ℕ) (n : List ℕ) (o : Option ℕ) → entry t d n ≡ o → IsVacant t d n → o ≡ None
vacant_go t d n None is v = refl
vacant_go t d n (Some x) is v = absurd (v x (entry_stands t d n x is))

pub none_vacant : (t : Rows) (d : ℕ) (n : List ℕ) → IsVacant t d n → entry t d n ≡ None
none_vacant t d n v = vacant_go t d n (entry t d n) refl v

stands_go : (t : Rows) → IsTree t → (d : ℕ) (n : List ℕ) (x : ℕ) (o : Option ℕ) → entry t d n ≡ o → IsEntry t d n x → o ≡ Some x
stands_go t w d n x None is e = absurd (vacant_none t d n is x e)
stands_go t w d n x (Some y) is e = ap (λ z. Some z) (w.unique y x d n (entry_stands t d n y is) e)

pub entry_is : (t : Rows) → IsTree t → (d : ℕ) (n : List ℕ) (x : ℕ) → (entry t d n ≡ Some x) ↔ IsEntry t d n x
entry_is t w d n x = (entry_stands t d n x, stands_go t w d n x (entry t d n) refl)
