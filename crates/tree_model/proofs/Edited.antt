-- What stands at a serial after edits, and when two lists of edits may change places.
use Rattle.std.proofs.Common.{◌≡◌, ℕ, List, [], ◌∷◌, refl, sym, ap, ◌∙◌}
use Rattle.std.specs.Prelude.{true, false, cond, ◌==◌}
use Rattle.std.specs.declared.option.Option.{Option}
use Rattle.std.specs.declared.option.Option.TheVariants.{None, Some}
use Rattle.std.specs.List.{AllByRecursion}
use Rattle.std.specs.Cmp.{nat_cmp_total, unsigned_tied}
use Rattle.std.specs.FinMap.{get, get-insert, get-remove, same_map, nat_cmp-IsAntisymmetric}
use Rattle.std.proofs.lemmas.Bool.{eqb-true}
use Rattle.tree_model.specs.declared.rows.Body.{Body}
use Rattle.tree_model.specs.declared.rows.Body.TheVariants.{Dir, File}
use Rattle.tree_model.specs.declared.rows.Row.{Row}
use Rattle.tree_model.specs.Rows.{Rows, place, is_dir, kind}
use Rattle.tree_model.specs.Updates.{Edit, Refill, Place, Count, change, store, edited, refilled, counted}

pub get_store : (t : Rows) (x : ℕ) (o : Option Row) (q : ℕ) → get (store t x o) q ≡ cond (q == x) o (get t q)
get_store t x None q = get-remove nat_cmp_total t x q ∙ ap (λ b. cond b None (get t q)) (unsigned_tied q x)
get_store t x (Some r) q = get-insert nat_cmp_total t x r q ∙ ap (λ b. cond b (Some r) (get t q)) (unsigned_tied q x)

-- one edit, as far as it concerns the serial s
abbrev pub act : ℕ → (ℕ × Edit) → Option Row → Option Row
act s e o = cond (s == e.0) (change e.1 o) o

abbrev pub row_after : List (ℕ × Edit) → ℕ → Option Row → Option Row
row_after [] s o = o
row_after (e ∷ es) s o = row_after es s (act s e o)

pub get_edited : (es : List (ℕ × Edit)) (t : Rows) (s : ℕ) → get (edited es t) s ≡ row_after es s (get t s)
get_edited [] t s = refl
get_edited (e ∷ es) t s =
    get_edited es (store t e.0 (change e.1 (get t e.0))) s
    ∙ ap (row_after es s) (get_store t e.0 (change e.1 (get t e.0)) s
    ∙ elim (s == e.0) as (λ b. s == e.0 ≡ b → cond b (change e.1 (get t e.0)) (get t s) ≡ cond b (change e.1 (get t s)) (get t s)) [
      | true ↦ λ p. ap (λ z. change e.1 (get t z)) (sym (eqb-true s e.0 p))
      | false ↦ λ p. refl
    ] refl)

abbrev pub Commute : Edit → Edit → Type 0
Commute e f = (o : Option Row) → change f (change e o) ≡ change e (change f o)

pub commute_back : (e f : Edit) → Commute e f → Commute f e
commute_back e f c o = sym (c o)

pub count_count : Commute Count Count
count_count o = refl

pub count_place : (d : ℕ) (n : List ℕ) → Commute Count (Place d n)
count_place d n None = refl
count_place d n (Some r) = refl

pub place_refill : (d : ℕ) (n : List ℕ) (f : List ℕ → List ℕ) → Commute (Place d n) (Refill f)
place_refill d n f None = refl
place_refill d n f (Some r) = refl

-- these keep the place and the kind
pub place_count : (o : Option Row) → place (change Count o) ≡ place o
place_count None = refl
place_count (Some r) = refl

pub place_refilled : (f : List ℕ → List ℕ) (o : Option Row) → place (change (Refill f) o) ≡ place o
place_refilled f None = refl
place_refilled f (Some r) = refl

kind_counted : (b : Body) → is_dir (counted b) ≡ is_dir b
kind_counted (Dir n) = refl
kind_counted (File bs) = refl

kind_refilled_body : (f : List ℕ → List ℕ) (b : Body) → is_dir (refilled f b) ≡ is_dir b
kind_refilled_body f (Dir n) = refl
kind_refilled_body f (File bs) = refl

pub kind_count : (o : Option Row) → kind (change Count o) ≡ kind o
kind_count None = refl
kind_count (Some r) = ap (λ z. Some z) (kind_counted r.body)

pub kind_refilled : (f : List ℕ → List ℕ) (o : Option Row) → kind (change (Refill f) o) ≡ kind o
kind_refilled f None = refl
kind_refilled f (Some r) = ap (λ z. Some z) (kind_refilled_body f r.body)

pub kind_placed : (d : ℕ) (n : List ℕ) (o : Option Row) → kind (change (Place d n) o) ≡ kind o
kind_placed d n None = refl
kind_placed d n (Some r) = refl

-- two edits that commute wherever they fall on one serial
abbrev pub Free : (ℕ × Edit) → (ℕ × Edit) → Type 0
Free a b = a.0 ≡ b.0 → Commute a.1 b.1

act_act : (s : ℕ) (a b : ℕ × Edit) → Free a b → (o : Option Row) → act s b (act s a o) ≡ act s a (act s b o)
act_act s a b f o = elim (s == a.0) as (λ x. s == a.0 ≡ x → cond (s == b.0) (change b.1 (cond x (change a.1 o) o)) (cond x (change a.1 o) o) ≡ cond x (change a.1 (act s b o)) (act s b o)) [
  | true ↦ λ p. elim (s == b.0) as (λ y. s == b.0 ≡ y → cond y (change b.1 (change a.1 o)) (change a.1 o) ≡ change a.1 (cond y (change b.1 o) o)) [
    | true ↦ λ q. f (sym (eqb-true s a.0 p) ∙ eqb-true s b.0 q) o
    | false ↦ λ q. refl
  ] refl
  | false ↦ λ p. refl
] refl

act_past : (s : ℕ) (a : ℕ × Edit) (fs : List (ℕ × Edit)) → AllByRecursion (λ b. Free a b) fs → (o : Option Row) → row_after fs s (act s a o) ≡ act s a (row_after fs s o)
act_past s a [] h o = refl
act_past s a (b ∷ fs) h o = ap (row_after fs s) (act_act s a b h.0 o) ∙ act_past s a fs h.1 (act s b o)

rows_past : (s : ℕ) (es fs : List (ℕ × Edit)) → AllByRecursion (λ a. AllByRecursion (λ b. Free a b) fs) es → (o : Option Row) → row_after fs s (row_after es s o) ≡ row_after es s (row_after fs s o)
rows_past s [] fs h o = refl
rows_past s (a ∷ es) fs h o = rows_past s es fs h.1 (act s a o) ∙ ap (row_after es s) (act_past s a fs h.0 o)

-- lists of edits that are free of each other give one tree in either order
pub edited_swap : (t : Rows) (es fs : List (ℕ × Edit)) → AllByRecursion (λ a. AllByRecursion (λ b. Free a b) fs) es → edited fs (edited es t) ≡ edited es (edited fs t)
edited_swap t es fs h = same_map nat_cmp_total nat_cmp-IsAntisymmetric _ _ (λ q.
    get_edited fs (edited es t) q ∙ ap (row_after fs q) (get_edited es t q) ∙ rows_past q es fs h (get t q)
    ∙ sym (get_edited es (edited fs t) q ∙ ap (row_after es q) (get_edited fs t q)))
