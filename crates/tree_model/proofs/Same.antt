-- The root alone is a tree, and a directory's count of changes makes no tree another.
use Rattle.std.proofs.Common.{◌≡◌, ℕ, ◌≢◌, List, [], refl, sym, ap, subst, ◌∙◌}
use Rattle.std.specs.Prelude.{true, false, cond, ◌==◌}
use Rattle.std.specs.declared.option.Option.{Option}
use Rattle.std.specs.declared.option.Option.TheVariants.{None, Some}
use Rattle.std.specs.Ordering.{nat_cmp}
use Rattle.std.specs.Cmp.{nat_cmp_total, unsigned_tied}
use Rattle.std.specs.FinMap.{get, empty, get-insert, get-empty}
use Rattle.std.proofs.lemmas.Bool.{eqb-true, ne_eqb}
use Rattle.tree_model.specs.declared.rows.Body.{Body}
use Rattle.tree_model.specs.declared.rows.Body.TheVariants.{Dir, File}
use Rattle.tree_model.specs.declared.rows.Row.{Row}
use Rattle.tree_model.specs.Rows.{Rows, place, kind, place_of, kind_of, parent_in, parent_of, up, alone, IsEntry, IsTree}
use Rattle.tree_model.specs.Updates.{recounted, on_body, store, recount}
use Rattle.tree_model.proofs.Edited.{get_store}
use Rattle.tree_model.proofs.Places.{none_some}

-- ---- the root alone
abbrev root_of : ℕ → Row
root_of changes = record { parent = None; name = []; body = Dir changes }

get_alone : (changes x : ℕ) → get (alone changes) x ≡ cond (x == 0) (Some (root_of changes)) None
get_alone changes x = get-insert nat_cmp_total empty 0 (root_of changes) x
    ∙ ap (λ b. cond b (Some (root_of changes)) (get (empty {R = nat_cmp}) x)) (unsigned_tied x 0)
    ∙ ap (λ o. cond (x == 0) (Some (root_of changes)) o) (get-empty nat_cmp x)

nowhere : (changes x : ℕ) → place_of (alone changes) x ≡ None
nowhere changes x = ap place (get_alone changes x) ∙ elim (x == 0) as (λ b. place (cond b (Some (root_of changes)) None) ≡ None) [ true ↦ refl | false ↦ refl ]

no_kind : (changes x : ℕ) → x ≢ 0 → kind_of (alone changes) x ≡ None
no_kind changes x ne = ap kind (get_alone changes x ∙ ap (λ b. cond b (Some (root_of changes)) None) (ne_eqb x 0 ne))

no_entry : (changes x d : ℕ) (n : List ℕ) → IsEntry (alone changes) d n x → ⊥
no_entry changes x d n e = none_some (d, n) (sym (nowhere changes x) ∙ e)

pub alone_tree : (changes : ℕ) → IsTree (alone changes)
alone_tree changes = record {
  root = (changes, get_alone changes 0);
  parents = λ x d n e. absurd (no_entry changes x d n e);
  unique = λ x y d n e f. absurd (no_entry changes x d n e);
  rooted = λ x d n e. absurd (no_entry changes x d n e);
  gone = λ x ne p k. none_some true (sym (no_kind changes x ne) ∙ k);
}

-- ---- rows that stand where they stood, and are what they were
pub same_tree : (t s : Rows) → IsTree t → ((x : ℕ) → place_of s x ≡ place_of t x) → ((x : ℕ) → kind_of s x ≡ kind_of t x) → (changes : ℕ) → get s 0 ≡ Some (root_of changes) → IsTree s
same_tree t s w places kinds changes root = record {
  root = (changes, root);
  parents = λ x d n e. kinds d ∙ w.parents x d n (sym (places x) ∙ e);
  unique = λ x y d n e f. w.unique x y d n (sym (places x) ∙ e) (sym (places y) ∙ f);
  rooted = λ x d n e.
      (let r = w.rooted x d n (sym (places x) ∙ e) in
      let same : parent_of t ≡ parent_of s = λ i y. parent_in (sym (places y) i) in
      (r.0, subst (λ f. up f r.0 x ≡ Some 0) same r.1));
  gone = λ x ne p k. w.gone x ne (sym (places x) ∙ p) (sym (kinds x) ∙ k);
}

place_recounted : (n : ℕ) (o : Option Row) → place (on_body (recounted n) o) ≡ place o
place_recounted n None = refl
place_recounted n (Some r) = refl

kind_body : (n : ℕ) (r : Row) (b : Body) → kind (Some (record r { body = recounted n b })) ≡ kind (Some (record r { body = b }))
kind_body n r (Dir changes) = refl
kind_body n r (File bytes) = refl

kind_recounted : (n : ℕ) (o : Option Row) → kind (on_body (recounted n) o) ≡ kind o
kind_recounted n None = refl
kind_recounted n (Some r) = kind_body n r r.body

stored_as : {A : Type 0} (f : Option Row → A) (t : Rows) (x : ℕ) (o : Option Row) → f o ≡ f (get t x) → (y : ℕ) → f (get (store t x o) y) ≡ f (get t y)
stored_as f t x o same y = ap f (get_store t x o y)
    ∙ elim (y == x) as (λ b. (y == x) ≡ b → f (cond b o (get t y)) ≡ f (get t y)) [ true ↦ λ p. same ∙ ap (λ z. f (get t z)) (sym (eqb-true y x p)) | false ↦ λ p. refl ] refl

-- the root's row stays the root's, with some count
root_stays : (t : Rows) (x n changes : ℕ) → get t 0 ≡ Some (root_of changes) → (c : ℕ) × (get (recount t x n) 0 ≡ Some (root_of c))
root_stays t x n changes is =
    elim (0 == x) as (λ b. (0 == x) ≡ b → (c : ℕ) × (get (recount t x n) 0 ≡ Some (root_of c))) [
      | true ↦ λ p. (
        n,
        get_store t x (on_body (recounted n) (get t x)) 0 ∙ ap (λ b. cond b (on_body (recounted n) (get t x)) (get t 0)) p
            ∙ ap (λ z. on_body (recounted n) (get t z)) (sym (eqb-true 0 x p)) ∙ ap (on_body (recounted n)) is,
      )
      | false ↦ λ p. (changes, get_store t x (on_body (recounted n) (get t x)) 0 ∙ ap (λ b. cond b (on_body (recounted n) (get t x)) (get t 0)) p ∙ is)
    ] refl

pub recounted_tree : (t : Rows) → IsTree t → (x n : ℕ) → IsTree (recount t x n)
recounted_tree t w x n =
    let root = w.root in
    let r = root_stays t x n root.0 root.1 in
    same_tree t (recount t x n) w
    (stored_as place t x (on_body (recounted n) (get t x)) (place_recounted n (get t x)))
    (stored_as kind t x (on_body (recounted n) (get t x)) (kind_recounted n (get t x))) r.0 r.1
