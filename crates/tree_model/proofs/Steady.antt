-- An update changes a sum over all rows by the same before and after one that it doesn't meet.
use Rattle.std.proofs.Common.{◌≡◌, ℕ, ◌-◌, inl, inr, List, [], ◌∷◌, refl, sym, ap, subst, arith, ◌∙◌}
use Rattle.std.specs.Prelude.{Bool, true, false, cond, ◌==◌}
use Rattle.std.specs.List.{AllByRecursion}
use Rattle.std.specs.declared.option.Option.{Option}
use Rattle.std.specs.declared.option.Option.TheVariants.{None, Some}
use Rattle.std.specs.FinMap.{get}
use Rattle.std.proofs.lemmas.Bool.{false_from_ne_true}
use Rattle.ccfs_base.specs.Contents.{resized, written}
use Rattle.tree_model.specs.declared.rows.Body.{Body}
use Rattle.tree_model.specs.declared.rows.Row.{Row}
use Rattle.tree_model.specs.declared.rows.Update.{Update}
use Rattle.tree_model.specs.declared.rows.Update.TheVariants.{Make, Write, Resize, Remove, Move, Release}
use Rattle.tree_model.specs.declared.keys.Key.TheVariants.{Node}
use Rattle.tree_model.specs.Rows.{Rows}
use Rattle.tree_model.specs.Updates.{Edit, Rework, Refill, Place, Count, change, counted, refilled, edits, apply, left_of, new_body}
use Rattle.tree_model.specs.Keys.{keys_of, meets}
use Rattle.tree_model.specs.Laws.{Meet}
use Rattle.tree_model.proofs.Edited.{act, row_after, get_edited}
use Rattle.tree_model.proofs.Placed.{act_apart}
use Rattle.tree_model.proofs.Locks.{In, no_node}
use Rattle.tree_model.proofs.Live.{total, part, heavy, old_part, new_part, total_apply}

-- ---- the body of a row whose node an update neither changes nor needs
abbrev body_of : Option Row → Option Body
body_of None = None
body_of (Some r) = Some r.body

abbrev NodeAt : Update → ℕ → Edit → Type 0
NodeAt v s (Rework f) = In (Node s true) (keys_of v)
NodeAt v s (Refill f) = In (Node s true) (keys_of v)
NodeAt v s (Place d n) = Unit {0}
NodeAt v s Count = In (Node s false) (keys_of v)

nodes : (v : Update) → AllByRecursion (λ e. NodeAt v e.0 e.1) (edits v)
nodes (Make dir name id d) = (inr (inl refl), (inr (inr (inl refl)), tt))
nodes (Write id off bytes) = (inl refl, tt)
nodes (Resize id size) = (inl refl, tt)
nodes (Remove dir name id stays) = (inr (inl refl), (inr (inr (inl refl)), tt))
nodes (Release id) = (inl refl, tt)
nodes (Move dir name to_dir to_name id d None stays) = (tt, (inr (inr (inl refl)), (inr (inr (inr (inl refl))), tt)))
nodes (Move dir name to_dir to_name id d (Some x) stays) = (inr (inr (inr (inr (inl refl)))), (tt, (inr (inr (inl refl)), (inr (inr (inr (inl refl))), tt))))

place_body : (d : ℕ) (n : List ℕ) (o : Option Row) → body_of (change (Place d n) o) ≡ body_of o
place_body d n None = refl
place_body d n (Some r) = refl

abbrev IsFree : Update → ℕ → Type 0
IsFree v s = (b : Bool) → In (Node s b) (keys_of v) → ⊥

missed : (v : Update) (s x : ℕ) (e : Edit) (b : Bool) (o : Option Row) → IsFree v s → In (Node x b) (keys_of v) → body_of (act s (x, e) o) ≡ body_of o
missed v s x e b o free i = ap body_of (act_apart s x e o (λ p. free b (subst (λ z. In (Node z b) (keys_of v)) (sym p) i)))

edit_body : (v : Update) (s x : ℕ) (e : Edit) (o : Option Row) → IsFree v s → NodeAt v x e → body_of (act s (x, e) o) ≡ body_of o
edit_body v s x (Rework f) o free h = missed v s x (Rework f) true o free h
edit_body v s x (Refill f) o free h = missed v s x (Refill f) true o free h
edit_body v s x (Place d n) o free h = elim (s == x) as (λ b. body_of (cond b (change (Place d n) o) o) ≡ body_of o) [ true ↦ place_body d n o | false ↦ refl ]
edit_body v s x Count o free h = missed v s x Count false o free h

edits_body : (v : Update) (s : ℕ) (es : List (ℕ × Edit)) (o : Option Row) → IsFree v s → AllByRecursion (λ e. NodeAt v e.0 e.1) es → body_of (row_after es s o) ≡ body_of o
edits_body v s [] o free h = refl
edits_body v s (e ∷ es) o free h = edits_body v s es (act s e o) free h.1 ∙ edit_body v s e.0 e.1 o free h.0

same_body : (t : Rows) (v : Update) (s : ℕ) → IsFree v s → body_of (get (apply t v) s) ≡ body_of (get t s)
same_body t v s free = ap body_of (get_edited (edits v) t s) ∙ edits_body v s (edits v) (get t s) free (nodes v)

module _ (f : Body → ℕ) where
  -- the part of a row, of a row refilled and of a row that goes, by its body
  abbrev part_by : Option Body → ℕ
  part_by None = 0
  part_by (Some b) = f b

  by_body : (o : Option Row) → part f o ≡ part_by (body_of o)
  by_body None = refl
  by_body (Some r) = refl

  refill_by : (List ℕ → List ℕ) → Option Body → ℕ
  refill_by g None = 0
  refill_by g (Some b) = f (refilled g b)

  by_refill : (g : List ℕ → List ℕ) (o : Option Row) → part f (change (Refill g) o) ≡ refill_by g (body_of o)
  unfolding refill_by
  by_refill g None = refl
  by_refill g (Some r) = refl

  left_by : Bool → Option Body → ℕ
  left_by true o = part_by o
  left_by false o = 0

  by_left : (stays : Bool) (o : Option Row) → part f (left_of stays o) ≡ left_by stays (body_of o)
  unfolding left_by
  by_left true None = refl
  by_left true (Some r) = refl
  by_left false o = refl

  -- both parts are as before
  abbrev Same : Rows → Rows → Update → Type 0
  Same t s u = (old_part f s (heavy u) ≡ old_part f t (heavy u)) × (new_part f s (heavy u) ≡ new_part f t (heavy u))

  same_at : (t s : Rows) (x : ℕ) (g : Option Row → Option Row) (by : Option Body → ℕ) → ((o : Option Row) → part f (g o) ≡ by (body_of o)) → body_of (get s x) ≡ body_of (get t x)
      → (part f (get s x) ≡ part f (get t x)) × (part f (g (get s x)) ≡ part f (g (get t x)))
  same_at t s x g by h p = (by_body (get s x) ∙ ap part_by p ∙ sym (by_body (get t x)), h (get s x) ∙ ap by p ∙ sym (h (get t x)))

  heavy_stays : (t : Rows) (u v : Update) → meets u v ≡ false → Same t (apply t v) u
  heavy_stays t (Make dir name id k) v m = same_at t (apply t v) id (λ o. Some (record { parent = Some dir; name = name; body = new_body k })) (λ o. f (new_body k)) (λ o. refl)
      (same_body t v id (λ b i. no_node (Make dir name id k) v id b m (inr (inl refl)) i))
  heavy_stays t (Write id off bytes) v m = same_at t (apply t v) id (change (Refill (written off bytes))) (refill_by (written off bytes)) (by_refill (written off bytes))
      (same_body t v id (λ b i. no_node (Write id off bytes) v id b m (inl refl) i))
  heavy_stays t (Resize id size) v m = same_at t (apply t v) id (change (Refill (resized size))) (refill_by (resized size)) (by_refill (resized size))
      (same_body t v id (λ b i. no_node (Resize id size) v id b m (inl refl) i))
  heavy_stays t (Remove dir name id stays) v m = same_at t (apply t v) id (left_of stays) (left_by stays) (by_left stays)
      (same_body t v id (λ b i. no_node (Remove dir name id stays) v id b m (inr (inl refl)) i))
  heavy_stays t (Release id) v m = same_at t (apply t v) id (left_of false) (left_by false) (by_left false)
      (same_body t v id (λ b i. no_node (Release id) v id b m (inl refl) i))
  heavy_stays t (Move dir name to_dir to_name id k None stays) v m = (refl, refl)
  heavy_stays t (Move dir name to_dir to_name id k (Some x) stays) v m = same_at t (apply t v) x (left_of stays) (left_by stays) (by_left stays)
      (same_body t v x (λ b i. no_node (Move dir name to_dir to_name id k (Some x) stays) v x b m (inr (inr (inr (inr (inl refl))))) i))

  -- where counting a change doesn't change a body's part, an update adds and takes the same before and after one that it
  -- doesn't meet
  pub steady : ((b : Body) → f (counted b) ≡ f b) → (t : Rows) (u v : Update) → (Meet u v → ⊥)
      → (total f (apply (apply t v) u) - total f (apply t v) ≡ total f (apply t u) - total f t)
      × (total f (apply t v) - total f (apply (apply t v) u) ≡ total f t - total f (apply t u))
  steady calm t u v apart =
      let s : Same t (apply t v) u = heavy_stays t u v (false_from_ne_true (meets u v) apart) in
      let x = total_apply f calm t u in
      let y = total_apply f calm (apply t v) u in
      let p = s.0 in
      let q = s.1 in
      (omega (arith, x, y, p, q), omega (arith, x, y, p, q))
