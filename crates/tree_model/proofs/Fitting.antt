-- In a tree the test of an update passes exactly where the update applies.
use Rattle.std.proofs.Common.{◌≡◌, ℕ, zero, suc, ◌≤◌, ◌≢◌, inl, inr, List, [], ◌∷◌, refl, sym, ap, arith, ◌∙◌, length}
use Rattle.std.specs.Prelude.{Bool, true, false, not, ◌&&◌, ◌||◌, is_none, ◌↔◌, IsTrue, ◌==◌}
use Rattle.std.specs.declared.option.Option.{Option}
use Rattle.std.specs.declared.option.Option.TheVariants.{None, Some}
use Rattle.std.specs.Ordering.{nat_cmp}
use Rattle.std.specs.FinMap.{get, len, empty, get-empty, len-empty, len-entries, empty_of_len, same_map}
use Rattle.std.specs.Cmp.Lexicographic.{slice_cmp}
use Rattle.std.proofs.lemmas.Option.{same_Some}
use Rattle.std.proofs.lemmas.Bool.{ne_eqb, eqb-true, eq-eqb, or_right, and_parts, and_from, cases_Bool, leb-true, le-leb}
use Rattle.std.proofs.lemmas.Cmp.{nat_list_cmp_total}
use Rattle.tree_model.specs.declared.rows.Update.{Update}
use Rattle.tree_model.specs.declared.rows.Update.TheVariants.{Make, Write, Resize, Remove, Move, Release}
use Rattle.tree_model.specs.Rows.{Rows, place_of, kind_of, parent_of, up, IsDir, IsEmpty, IsClear, IsTree, is_kind}
use Rattle.tree_model.specs.Entries.{entries_of, entry}
use Rattle.tree_model.specs.Updates.{Fits, MayReplace}
use Rattle.tree_model.specs.Tests.{is_it, is_empty_at, is_above, may_replace, applies}
use Rattle.tree_model.proofs.MapView.{bytes_same}
use Rattle.tree_model.proofs.Found.{entry_stands, vacant_none, none_vacant, entry_is}
use Rattle.tree_model.proofs.Chains.{up_first, up_last, root_top}
use Rattle.tree_model.proofs.RootedKept.{dir_rooted}
use Rattle.tree_model.proofs.Above.{dir_chain, chain_short, up_above, above_up}

-- ---- a directory without entries
pub empty_from : (t : Rows) → IsTree t → (d : ℕ) → is_empty_at t d ≡ true → IsEmpty t d
empty_from t w d p x n e =
    let none : entries_of t d ≡ empty = empty_of_len (entries_of t d) (len-entries (entries_of t d) ∙ eqb-true _ 0 p) in
    let bad : ◌≡◌ {A = Option ℕ} None (Some x) = sym (ap (λ i. get i n) none ∙ get-empty (slice_cmp nat_cmp) n) ∙ (entry_is t w d n x).1 e in cc

pub empty_is : (t : Rows) (d : ℕ) → IsEmpty t d → is_empty_at t d ≡ true
empty_is t d h =
    let none : entries_of t d ≡ empty = same_map nat_list_cmp_total bytes_same _ _ (λ n. none_vacant t d n (λ x. h x n) ∙ sym (get-empty (slice_cmp nat_cmp) n)) in
    eq-eqb _ 0 (sym (len-entries (entries_of t d)) ∙ ap len none ∙ len-empty (slice_cmp nat_cmp) ℕ)

-- ---- what is above a directory
up_over : (f : ℕ → Option ℕ) (m k d x top : ℕ) → f top ≡ None → up f m d ≡ Some top → up f k d ≡ Some x → k ≤ m
up_over f m zero d x top n p q = omega arith
up_over f zero (suc k) d x top n p q = absurd (let bad : ◌≡◌ {A = Option ℕ} None (Some x) = sym (up_last f k d (ap f (same_Some d top p) ∙ n)) ∙ q in cc)
up_over f (suc m) (suc k) d x top n p q = elim (f d) as (λ o. f d ≡ o → suc k ≤ suc m) [
  | None ↦ λ e. absurd (let w : ◌≡◌ {A = Option ℕ} None (Some x) = sym (up_last f k d e) ∙ q in cc)
  | Some y ↦ λ e. (let ih = up_over f m k y x top n (sym (up_first f m d y e) ∙ p) (sym (up_first f k d y e) ∙ q) in omega arith)
] refl

pub clear_from : (t : Rows) → IsTree t → (x d : ℕ) → IsDir t d → is_above (len t) t x (Some d) ≡ false → IsClear t x d
clear_from t w x d h p k q =
    let r = dir_rooted t w d h in
    let short = chain_short (parent_of t) 0 (root_top t w) r.0 t d r.1 (dir_chain t w r.0 d h r.1) in
    let le = up_over (parent_of t) r.0 k d x 0 (root_top t w) r.1 q in
    let bad : true ≡ false = sym (up_above (len t) t x d k (omega arith) q) ∙ p in cc

pub clear_is : (t : Rows) (x d : ℕ) → IsClear t x d → is_above (len t) t x (Some d) ≡ false
clear_is t x d c = elim (cases_Bool (is_above (len t) t x (Some d))) [ inl p ↦ absurd (let r = above_up (len t) t x d p in c r.0 r.1) | inr p ↦ p ]

is_kind_eq : (o : Option Bool) (b : Bool) → is_kind o b ≡ true → o ≡ Some b
is_kind_eq None b p = absurd (cc)
is_kind_eq (Some true) true p = refl
is_kind_eq (Some true) false p = absurd (cc)
is_kind_eq (Some false) true p = absurd (cc)
is_kind_eq (Some false) false p = refl

is_kind_from : (o : Option Bool) (b : Bool) → o ≡ Some b → is_kind o b ≡ true
is_kind_from o b p = ap (λ z. is_kind z b) p ∙ elim b as (λ c. is_kind (Some c) c ≡ true) [ true ↦ refl | false ↦ refl ]

is_it_eq : (o : Option ℕ) (x : ℕ) → is_it o x ≡ true → o ≡ Some x
is_it_eq None x p = absurd (cc)
is_it_eq (Some y) x p = ap (λ z. Some z) (eqb-true y x p)

is_it_from : (o : Option ℕ) (x : ℕ) → o ≡ Some x → is_it o x ≡ true
is_it_from o x p = ap (λ z. is_it z x) p ∙ eq-eqb x x refl

is_none_eq : {A : Type 0} (o : Option A) → is_none o ≡ true → o ≡ None
is_none_eq None p = refl
is_none_eq (Some y) p = absurd (cc)

not_parts : (b : Bool) → not b ≡ true → b ≡ false
not_parts true p = absurd (cc)
not_parts false p = refl

not_it : (o : Option ℕ) (x : ℕ) → not (is_it o x) ≡ true → o ≢ Some x
not_it o x p e = let bad : true ≡ false = sym (is_it_from o x e) ∙ not_parts _ p in cc

not_nil : (bs : List ℕ) → not (length bs == 0) ≡ true → bs ≢ []
not_nil bs p e = let bad : true ≡ false = sym (eq-eqb (length bs) 0 (ap length e)) ∙ not_parts _ p in cc

may_replace_fits : (t : Rows) (d : ℕ) (n : List ℕ) (k : Bool) (o : Option ℕ) → may_replace t d n k o ≡ true → MayReplace t d n k o
may_replace_fits t d n k None p = vacant_none t d n (is_none_eq _ p)
may_replace_fits t d n k (Some x) p = let a = and_parts _ _ p in let b = and_parts _ _ a.1 in (entry_stands t d n x (is_it_eq _ x a.0), is_kind_eq _ false b.0, not_parts _ b.1)

passed_fits : (t : Rows) (u : Update) → IsTree t → applies t u ≡ true → Fits t u
passed_fits t (Make dir name id k) w p = let a = and_parts _ _ p in let b = and_parts _ _ a.1 in (is_kind_eq _ true a.0, vacant_none t dir name (is_none_eq _ b.0), is_none_eq _ b.1)
passed_fits t (Write id off bytes) w p = let a = and_parts _ _ p in let b = and_parts _ _ a.1 in (is_kind_eq _ false a.0, not_nil bytes b.0, leb-true _ _ b.1)
passed_fits t (Resize id len) w p = let a = and_parts _ _ p in (is_kind_eq _ false a.0, leb-true _ _ a.1)
passed_fits t (Remove dir name id stays) w p = let a = and_parts _ _ p in (
  entry_stands t dir name id (is_it_eq _ id a.0),
  λ h. elim (cases_Bool (not (is_kind (kind_of t id) true))) [
    | inl q ↦ absurd (let bad : true ≡ false = sym (is_kind_from _ true h) ∙ not_parts _ q in cc)
    | inr q ↦ (let z : (is_empty_at t id && not stays) ≡ true = ap (λ b. b || (is_empty_at t id && not stays)) (sym q) ∙ a.1 in let b = and_parts _ _ z in (empty_from t w id b.0, not_parts _ b.1))
  ],
)
passed_fits t (Release id) w p = let a = and_parts _ _ p in (is_kind_eq _ false a.0, is_none_eq _ a.1)
passed_fits t (Move dir name to_dir to_name id k r stays) w p =
    let a = and_parts _ _ p in let b = and_parts _ _ a.1 in let c = and_parts _ _ b.1 in let d = and_parts _ _ c.1 in let e = and_parts _ _ d.1 in
    let h : IsDir t to_dir = is_kind_eq _ true c.0 in
    (entry_stands t dir name id (is_it_eq _ id a.0), is_kind_eq _ k b.0, h, not_it r id d.0, may_replace_fits t to_dir to_name k r e.0, clear_from t w id to_dir h (not_parts _ e.1))

none_test : {A : Type 0} (o : Option A) → o ≡ None → is_none o ≡ true
none_test o p = ap (λ z. is_none z) p

not_from : (b : Bool) → b ≡ false → not b ≡ true
not_from b p = ap not p

apart_it : (o : Option ℕ) (x : ℕ) → o ≢ Some x → is_it o x ≡ false
apart_it o x ne = elim (cases_Bool (is_it o x)) [ inl p ↦ absurd (ne (is_it_eq o x p)) | inr p ↦ p ]

nil_test : (bs : List ℕ) → bs ≢ [] → (length bs == 0) ≡ false
nil_test [] ne = absurd (ne refl)
nil_test (b ∷ bs) ne = ne_eqb (suc (length bs)) 0 (λ e. omega arith)

may_replace_is : (t : Rows) → IsTree t → (d : ℕ) (n : List ℕ) (k : Bool) (o : Option ℕ) → MayReplace t d n k o → may_replace t d n k o ≡ true
may_replace_is t w d n k None m = none_test (entry t d n) (none_vacant t d n m)
may_replace_is t w d n k (Some x) m = and_from _ _ (is_it_from (entry t d n) x ((entry_is t w d n x).1 m.0)) (and_from _ _ (is_kind_from (kind_of t x) false m.1) (not_from k m.2))

fits_passes : (t : Rows) (u : Update) → IsTree t → Fits t u → applies t u ≡ true
fits_passes t (Make dir name id k) w f = and_from _ _ (is_kind_from (kind_of t dir) true f.0) (and_from _ _ (none_test (entry t dir name) (none_vacant t dir name f.1)) (none_test (get t id) f.2))
fits_passes t (Write id off bytes) w f = and_from _ _ (is_kind_from (kind_of t id) false f.0) (and_from _ _ (not_from (length bytes == 0) (nil_test bytes f.1)) (le-leb _ _ f.2))
fits_passes t (Resize id len) w f = and_from _ _ (is_kind_from (kind_of t id) false f.0) (le-leb _ _ f.1)
fits_passes t (Remove dir name id stays) w f = and_from _ _ (is_it_from (entry t dir name) id ((entry_is t w dir name id).1 f.0))
    (elim (cases_Bool (is_kind (kind_of t id) true)) [
      | inl p ↦ (let r = f.1 (is_kind_eq (kind_of t id) true p) in or_right (not (is_kind (kind_of t id) true)) (is_empty_at t id && not stays) (and_from _ _ (empty_is t id r.0) (not_from stays r.1)))
      | inr p ↦ ap (λ b. b || (is_empty_at t id && not stays)) (not_from _ p)
    ])
fits_passes t (Release id) w f = and_from _ _ (is_kind_from (kind_of t id) false f.0) (none_test (place_of t id) f.1)
fits_passes t (Move dir name to_dir to_name id k r stays) w f =
    and_from _ _ (is_it_from (entry t dir name) id ((entry_is t w dir name id).1 f.0)) (and_from _ _ (is_kind_from (kind_of t id) k f.1) (and_from _ _ (is_kind_from (kind_of t to_dir) true f.2)
    (and_from _ _ (not_from _ (apart_it r id f.3)) (and_from _ _ (may_replace_is t w to_dir to_name k r f.4) (not_from _ (clear_is t id to_dir f.5))))))

pub applies_fits : (t : Rows) (u : Update) → IsTree t → IsTrue (applies t u) ↔ Fits t u
applies_fits t u w = (passed_fits t u w, fits_passes t u w)
