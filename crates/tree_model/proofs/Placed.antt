-- Where each row stands after an update.
use Rattle.std.proofs.Common.{◌≡◌, ℕ, ◌≢◌, List, refl, sym, ap, ◌∙◌}
use Rattle.std.specs.Prelude.{Bool, true, false, cond, ◌==◌}
use Rattle.std.specs.declared.option.Option.{Option}
use Rattle.std.specs.declared.option.Option.TheVariants.{None, Some}
use Rattle.std.specs.FinMap.{get}
use Rattle.std.proofs.lemmas.Bool.{eqb-true, eq-eqb, ne_eqb}
use Rattle.tree_model.specs.declared.rows.Row.{Row}
use Rattle.tree_model.specs.declared.rows.Update.TheVariants.{Make, Write, Resize, Remove, Move, Release}
use Rattle.tree_model.specs.Rows.{Rows, place, kind, place_of, kind_of}
use Rattle.tree_model.specs.Updates.{Edit, Rework, Refill, Place, Count, change, edits, apply, left_of, new_body}
use Rattle.tree_model.proofs.Edited.{act, get_edited, place_count, place_refilled}

pub act_here : (s x : ℕ) (e : Edit) (o : Option Row) → s ≡ x → act s (x, e) o ≡ change e o
act_here s x e o p = ap (λ b. cond b (change e o) o) (eq-eqb s x p)

pub act_apart : (s x : ℕ) (e : Edit) (o : Option Row) → s ≢ x → act s (x, e) o ≡ o
act_apart s x e o p = ap (λ b. cond b (change e o) o) (ne_eqb s x p)

pub place_act_count : (s x : ℕ) (o : Option Row) → place (act s (x, Count) o) ≡ place o
place_act_count s x o = elim (s == x) as (λ b. place (cond b (change Count o) o) ≡ place o) [ true ↦ place_count o | false ↦ refl ]

pub place_act_refill : (s x : ℕ) (f : List ℕ → List ℕ) (o : Option Row) → place (act s (x, Refill f) o) ≡ place o
place_act_refill s x f o = elim (s == x) as (λ b. place (cond b (change (Refill f) o) o) ≡ place o) [ true ↦ place_refilled f o | false ↦ refl ]

place_gone : (stays : Bool) (o : Option Row) → place (left_of stays o) ≡ None
place_gone true None = refl
place_gone true (Some r) = refl
place_gone false o = refl

pub placed_make : (t : Rows) (dir : ℕ) (name : List ℕ) (id : ℕ) (d : Bool) (s : ℕ) → place_of (apply t (Make dir name id d)) s ≡ cond (s == id) (Some (dir, name)) (place_of t s)
placed_make t dir name id d s =
    ap place (get_edited (edits (Make dir name id d)) t s) ∙ place_act_count s dir _
    ∙ elim (s == id) as (λ b. place (cond b (Some (record { parent = Some dir; name = name; body = new_body d })) (get t s)) ≡ cond b (Some (dir, name)) (place_of t s)) [ true ↦ refl | false ↦ refl ]

pub placed_write : (t : Rows) (id off : ℕ) (bytes : List ℕ) (s : ℕ) → place_of (apply t (Write id off bytes)) s ≡ place_of t s
placed_write t id off bytes s = ap place (get_edited (edits (Write id off bytes)) t s) ∙ place_act_refill s id _ (get t s)

pub placed_resize : (t : Rows) (id len : ℕ) (s : ℕ) → place_of (apply t (Resize id len)) s ≡ place_of t s
placed_resize t id len s = ap place (get_edited (edits (Resize id len)) t s) ∙ place_act_refill s id _ (get t s)

place_act_gone : (s x : ℕ) (stays : Bool) (o : Option Row) → place (act s (x, Rework (left_of stays)) o) ≡ cond (s == x) None (place o)
place_act_gone s x stays o = elim (s == x) as (λ b. place (cond b (left_of stays o) o) ≡ cond b None (place o)) [ true ↦ place_gone stays o | false ↦ refl ]

pub placed_remove : (t : Rows) (dir : ℕ) (name : List ℕ) (id : ℕ) (stays : Bool) (s : ℕ) → place_of (apply t (Remove dir name id stays)) s ≡ cond (s == id) None (place_of t s)
placed_remove t dir name id stays s =
    ap place (get_edited (edits (Remove dir name id stays)) t s) ∙ place_act_count s dir _ ∙ place_act_gone s id stays (get t s)

pub placed_release : (t : Rows) (id s : ℕ) → place_of (apply t (Release id)) s ≡ cond (s == id) None (place_of t s)
placed_release t id s = ap place (get_edited (edits (Release id)) t s) ∙ place_act_gone s id false (get t s)

abbrev pub is_that : Option ℕ → ℕ → Bool
is_that None s = false
is_that (Some x) s = s == x

place_act_place : (s x d : ℕ) (n : List ℕ) (k : Bool) (o : Option Row) → (s ≡ x → kind o ≡ Some k) → place (act s (x, Place d n) o) ≡ cond (s == x) (Some (d, n)) (place o)
place_act_place s x d n k None h = elim (s == x) as (λ b. s == x ≡ b → place (cond b (change (Place d n) None) None) ≡ cond b (Some (d, n)) None) [
  | true ↦ λ p. absurd (let q = h (eqb-true s x p) in cc)
  | false ↦ λ p. refl
] refl
place_act_place s x d n k (Some r) h = elim (s == x) as (λ b. place (cond b (change (Place d n) (Some r)) (Some r)) ≡ cond b (Some (d, n)) (place (Some r))) [ true ↦ refl | false ↦ refl ]

-- a moved row stands at the second entry, a replaced one nowhere, the others where they stood
pub placed_move : (t : Rows) (dir : ℕ) (name : List ℕ) (to_dir : ℕ) (to_name : List ℕ) (id : ℕ) (d : Bool) (replaced : Option ℕ) (stays : Bool)
    → kind_of t id ≡ Some d → replaced ≢ Some id → (s : ℕ)
    → place_of (apply t (Move dir name to_dir to_name id d replaced stays)) s ≡ cond (s == id) (Some (to_dir, to_name)) (cond (is_that replaced s) None (place_of t s))
placed_move t dir name to_dir to_name id d None stays k ne s =
    ap place (get_edited (edits (Move dir name to_dir to_name id d None stays)) t s) ∙ place_act_count s to_dir _ ∙ place_act_count s dir _
    ∙ place_act_place s id to_dir to_name d (get t s) (λ e. ap (kind_of t) e ∙ k)
placed_move t dir name to_dir to_name id d (Some x) stays k ne s =
    ap place (get_edited (edits (Move dir name to_dir to_name id d (Some x) stays)) t s) ∙ place_act_count s to_dir _ ∙ place_act_count s dir _
    ∙ place_act_place s id to_dir to_name d (act s (x, Rework (left_of stays)) (get t s))
    (λ e. ap kind (act_apart s x (Rework (left_of stays)) (get t s) (λ q. ne (ap (λ z. Some z) (sym q ∙ e)))) ∙ ap (kind_of t) e ∙ k)
    ∙ ap (cond (s == id) (Some (to_dir, to_name))) (place_act_gone s x stays (get t s))
