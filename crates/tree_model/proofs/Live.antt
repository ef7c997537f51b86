-- How storing a row changes a sum over all rows, as that of the blocks that files take, and how an update changes it.
use Rattle.std.proofs.Common.{◌≡◌, ℕ, ◌+◌, inl, inr, List, [], ◌∷◌, refl, sym, ap, arith, ◌∙◌}
use Rattle.std.specs.Prelude.{Bool, false, cond, length}
use Rattle.std.specs.List.{sum_by}
use Rattle.std.specs.declared.option.Option.{Option}
use Rattle.std.specs.declared.option.Option.TheVariants.{None, Some}
use Rattle.std.specs.declared.cmp.Ordering.{Ordering}
use Rattle.std.specs.declared.cmp.Ordering.TheVariants.{Less, Equal, Greater}
use Rattle.std.specs.Ordering.{nat_cmp, is_eq}
use Rattle.std.specs.Cmp.{nat_cmp_total, unsigned_tied}
use Rattle.std.specs.FinMap.{get, remove, entries, len, len-entries, find, get-entries, entries-insert, get-remove, same_map, nat_cmp-IsAntisymmetric}
use Rattle.std.specs.FinMap.Entries.{put}
use Rattle.std.proofs.lemmas.Bool.{eq-eqb, ne_eqb, cases_eq}
use Rattle.std.proofs.lemmas.List.Sums.{sum_by-cons}
use Rattle.ccfs_base.specs.Limits.{blocks}
use Rattle.ccfs_base.specs.Contents.{resized, written}
use Rattle.tree_model.specs.declared.rows.Body.{Body}
use Rattle.tree_model.specs.declared.rows.Row.{Row}
use Rattle.tree_model.specs.declared.rows.Update.{Update}
use Rattle.tree_model.specs.declared.rows.Update.TheVariants.{Make, Write, Resize, Remove, Move, Release}
use Rattle.tree_model.specs.Rows.{Rows}
use Rattle.tree_model.specs.Updates.{Edit, Refill, Place, Count, change, counted, store, apply, left_of, new_body}
use Rattle.tree_model.specs.Weights.{body_bytes, live}
use Rattle.tree_model.proofs.Edited.{get_store}

-- ---- the sum of f over the bodies of all rows
abbrev pub total : (Body → ℕ) → Rows → ℕ
total f t = sum_by (λ e. f e.1.body) (entries t)

-- the part of one row, or of none
abbrev pub part : (Body → ℕ) → Option Row → ℕ
part f None = 0
part f (Some r) = f r.body

-- the blocks of a body: their sum is that of all files
abbrev pub body_blocks : Body → ℕ
body_blocks b = blocks (length (body_bytes b))

pub live_total : (t : Rows) → live t ≡ total body_blocks t
live_total t = refl

-- 1 for each row: the sum is their number
abbrev pub one_each : Body → ℕ
one_each b = 1

ones : (es : List (ℕ × Row)) → length es ≡ sum_by (λ e. one_each e.1.body) es
ones [] = refl
ones (e ∷ es) = let ih = ones es in let c = sum_by-cons (λ (e : ℕ × Row). one_each e.1.body) e es in omega arith

pub len_total : (t : Rows) → len t ≡ total one_each t
len_total t = len-entries t ∙ ones (entries t)

-- ---- rows without the row at a serial, and with it
get_here : (t : Rows) (k : ℕ) → get (remove t k) k ≡ None
get_here t k = get-remove nat_cmp_total t k k ∙ ap (λ b. cond b None (get t k)) (unsigned_tied k k ∙ eq-eqb k k refl)

stored_back : (t : Rows) (k : ℕ) → t ≡ store (remove t k) k (get t k)
stored_back t k = same_map nat_cmp_total nat_cmp-IsAntisymmetric _ _ (λ q. sym (get_store (remove t k) k (get t k) q
    ∙ elim (cases_eq q k) [
      | inl e ↦ ap (λ b. cond b (get t k) (get (remove t k) q)) (eq-eqb q k e) ∙ ap (get t) (sym e)
      | inr ne ↦ ap (λ b. cond b (get t k) (get (remove t k) q)) (ne_eqb q k ne) ∙ get-remove nat_cmp_total t k q ∙ ap (λ b. cond b None (get t q)) (unsigned_tied q k ∙ ne_eqb q k ne)
    ]))

remove_stored : (t : Rows) (k : ℕ) (o : Option Row) → store (remove t k) k o ≡ store t k o
remove_stored t k o = same_map nat_cmp_total nat_cmp-IsAntisymmetric _ _ (λ q. get_store (remove t k) k o q
    ∙ elim (cases_eq q k) [
      | inl e ↦ ap (λ b. cond b o (get (remove t k) q)) (eq-eqb q k e) ∙ sym (ap (λ b. cond b o (get t q)) (eq-eqb q k e))
      | inr ne ↦ ap (λ b. cond b o (get (remove t k) q)) (ne_eqb q k ne) ∙ get-remove nat_cmp_total t k q ∙ ap (λ b. cond b None (get t q)) (unsigned_tied q k ∙ ne_eqb q k ne)
          ∙ sym (ap (λ b. cond b o (get t q)) (ne_eqb q k ne))
    ] ∙ sym (get_store t k o q))

twice_removed : (t : Rows) (k : ℕ) → remove (remove t k) k ≡ remove t k
twice_removed t k = remove_stored t k None

-- the three ways of putting an entry
abbrev by_order : {A : Type 0} → Ordering → A → A → A → A
by_order Less a b c = a
by_order Equal a b c = b
by_order Greater a b c = c

module _ (f : Body → ℕ) where
  abbrev sum : List (ℕ × Row) → ℕ
  sum es = sum_by (λ e. f e.1.body) es

  sum_first : (e : ℕ × Row) (es : List (ℕ × Row)) → sum (e ∷ es) ≡ f e.1.body + sum es
  sum_first e es = sum_by-cons (λ (e : ℕ × Row). f e.1.body) e es

  sum_three : (o : Ordering) (p e : ℕ × Row) (es rest : List (ℕ × Row)) → cond (is_eq o) (Some e.1) (find nat_cmp p.0 es) ≡ None
      → (find nat_cmp p.0 es ≡ None → sum rest ≡ f p.1.body + sum es) → sum (by_order o (p ∷ e ∷ es) ((e.0, p.1) ∷ es) (e ∷ rest)) ≡ f p.1.body + (f e.1.body + sum es)
  sum_three Less p e es rest q ih = sum_first p (e ∷ es) ∙ ap (λ z. f p.1.body + z) (sum_first e es)
  sum_three Equal p e es rest q ih = absurd (let z : ◌≡◌ {A = Option Row} (Some e.1) None = q in cc)
  sum_three Greater p e es rest q ih = let h = ih q in let s = sum_first e rest in omega arith

  sum_put : (k : ℕ) (v : Row) (es : List (ℕ × Row)) → find nat_cmp k es ≡ None → sum (put nat_cmp k v es) ≡ f v.body + sum es
  sum_put k v [] p = sum_first (k, v) []
  sum_put k v (e ∷ es) p = sum_three (nat_cmp k e.0) (k, v) e es (put nat_cmp k v es) p (λ q. sum_put k v es q) ∙ ap (λ z. f v.body + z) (sym (sum_first e es))

  total_stored : (t : Rows) (k : ℕ) (o : Option Row) → total f (store (remove t k) k o) ≡ part f o + total f (remove t k)
  total_stored t k None = ap (total f) (twice_removed t k) ∙ (let z : total f (remove t k) ≡ 0 + total f (remove t k) = omega arith in z)
  total_stored t k (Some v) = ap sum (entries-insert nat_cmp_total (remove t k) k v) ∙ sum_put k v (entries (remove t k)) (sym (get-entries (remove t k) k) ∙ get_here t k)

  -- storing a row changes the sum by that row alone
  pub total_store : (t : Rows) (k : ℕ) (o : Option Row) → total f (store t k o) + part f (get t k) ≡ total f t + part f o
  total_store t k o =
      let a : total f (store t k o) ≡ part f o + total f (remove t k) = ap (total f) (sym (remove_stored t k o)) ∙ total_stored t k o in
      let b : total f t ≡ part f (get t k) + total f (remove t k) = ap (total f) (stored_back t k) ∙ total_stored t k (get t k) in omega arith

-- the blocks of all files, as a row is stored
pub live_store : (t : Rows) (k : ℕ) (o : Option Row) → live (store t k o) + part body_blocks (get t k) ≡ live t + part body_blocks o
live_store t k o = total_store body_blocks t k o

-- ---- updates: the one row whose part an update may change, and what it becomes
abbrev pub heavy_left : Option ℕ → Bool → Option (ℕ × (Option Row → Option Row))
heavy_left None stays = None
heavy_left (Some x) stays = Some (x, left_of stays)

abbrev pub heavy : Update → Option (ℕ × (Option Row → Option Row))
heavy (Make dir name id is_dir) = Some (id, λ o. Some (record { parent = Some dir; name = name; body = new_body is_dir }))
heavy (Write id off bytes) = Some (id, change (Refill (written off bytes)))
heavy (Resize id size) = Some (id, change (Refill (resized size)))
heavy (Remove dir name id stays) = Some (id, left_of stays)
heavy (Move dir name to_dir to_name id is_dir replaced stays) = heavy_left replaced stays
heavy (Release id) = Some (id, left_of false)

module _ (f : Body → ℕ) where
  abbrev pub old_part : Rows → Option (ℕ × (Option Row → Option Row)) → ℕ
  old_part t None = 0
  old_part t (Some p) = part f (get t p.0)

  abbrev pub new_part : Rows → Option (ℕ × (Option Row → Option Row)) → ℕ
  new_part t None = 0
  new_part t (Some p) = part f (p.1 (get t p.0))

  part_place : (d : ℕ) (n : List ℕ) (o : Option Row) → part f (change (Place d n) o) ≡ part f o
  part_place d n None = refl
  part_place d n (Some r) = refl

  light : (t : Rows) (x : ℕ) (e : Edit) → part f (change e (get t x)) ≡ part f (get t x) → total f (store t x (change e (get t x))) ≡ total f t
  light t x e p = let h = total_store f t x (change e (get t x)) in omega arith

  -- where counting a change doesn't change a body's part
  module _ (calm : (b : Body) → f (counted b) ≡ f b) where
    part_count : (o : Option Row) → part f (change Count o) ≡ part f o
    part_count None = refl
    part_count (Some r) = calm r.body

    light_count : (t : Rows) (x : ℕ) → total f (store t x (change Count (get t x))) ≡ total f t
    light_count t x = light t x Count (part_count (get t x))

    -- an update changes the sum by that one row
    pub total_apply : (t : Rows) (u : Update) → total f (apply t u) + old_part t (heavy u) ≡ total f t + new_part t (heavy u)
    total_apply t (Make dir name id k) =
        let r : Option Row = Some (record { parent = Some dir; name = name; body = new_body k }) in
        let h = total_store f t id r in let c = light_count (store t id r) dir in omega arith
    total_apply t (Write id off bytes) = total_store f t id (change (Refill (written off bytes)) (get t id))
    total_apply t (Resize id size) = total_store f t id (change (Refill (resized size)) (get t id))
    total_apply t (Remove dir name id stays) = let h = total_store f t id (left_of stays (get t id)) in let c = light_count (store t id (left_of stays (get t id))) dir in omega arith
    total_apply t (Release id) = total_store f t id (left_of false (get t id))
    total_apply t (Move dir name to_dir to_name id k None stays) =
        let a = light t id (Place to_dir to_name) (part_place to_dir to_name (get t id)) in
        let t1 : Rows = store t id (change (Place to_dir to_name) (get t id)) in
        let b = light_count t1 dir in
        let t2 : Rows = store t1 dir (change Count (get t1 dir)) in
        let c = light_count t2 to_dir in omega arith
    total_apply t (Move dir name to_dir to_name id k (Some x) stays) =
        let t0 : Rows = store t x (left_of stays (get t x)) in
        let h = total_store f t x (left_of stays (get t x)) in
        let a = light t0 id (Place to_dir to_name) (part_place to_dir to_name (get t0 id)) in
        let t1 : Rows = store t0 id (change (Place to_dir to_name) (get t0 id)) in
        let b = light_count t1 dir in
        let t2 : Rows = store t1 dir (change Count (get t1 dir)) in
        let c = light_count t2 to_dir in omega arith
