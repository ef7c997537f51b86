-- After an update that applies each row that stands somewhere is below the root.
use Rattle.std.proofs.Common.{◌≡◌, ℕ, zero, suc, ◌≢◌, ◌⊎◌, inl, inr, List, refl, sym, ap, subst, ◌∙◌}
use Rattle.std.specs.Prelude.{cond, ◌==◌}
use Rattle.std.specs.declared.option.Option.{Option}
use Rattle.std.specs.declared.option.Option.TheVariants.{None, Some}
use Rattle.std.proofs.lemmas.Bool.{eqb-false, cases_eq}
use Rattle.tree_model.specs.declared.rows.Update.{Update}
use Rattle.tree_model.specs.declared.rows.Update.TheVariants.{Make, Write, Resize, Remove, Move, Release}
use Rattle.tree_model.specs.Rows.{Rows, place, place_of, parent_in, parent_of, IsDir, IsEntry, IsClear, IsTree, up}
use Rattle.tree_model.specs.Updates.{apply, Fits}
use Rattle.tree_model.proofs.Chains.{up_first, up_last, parent_entry}
use Rattle.tree_model.proofs.Placed.{placed_make, placed_write, placed_resize, placed_remove, placed_release, placed_move, is_that}
use Rattle.tree_model.proofs.Locks.{at_here, at_apart}
use Rattle.tree_model.proofs.Framed.{not_replaced}
use Rattle.tree_model.proofs.EntriesKept.{cond_some, move_stands}

-- chains that reach the top by f reach it by g
rerooted : (f g : ℕ → Option ℕ) (Q : ℕ → Type 0) → ((x y : ℕ) → Q x → f x ≡ Some y → (g x ≡ Some y × Q y) ⊎ ((m : ℕ) × (up g m x ≡ Some 0)))
    → (k x : ℕ) → Q x → up f k x ≡ Some 0 → (m : ℕ) × (up g m x ≡ Some 0)
rerooted f g Q h zero x q p = (zero, p)
rerooted f g Q h (suc k) x q p = elim (f x) as (λ o. f x ≡ o → (m : ℕ) × (up g m x ≡ Some 0)) [
  | None ↦ λ e. absurd (let bad : ◌≡◌ {A = Option ℕ} None (Some 0) = sym (up_last f k x e) ∙ p in cc)
  | Some y ↦ λ e. elim (h x y q e) [
    | inl r ↦ (let ih = rerooted f g Q h k y r.1 (sym (up_first f k x y e) ∙ p) in (suc ih.0, up_first g ih.0 x y r.0 ∙ ih.1))
    | inr r ↦ r
  ]
] refl

-- a directory's chain reaches the root
pub dir_rooted : (t : Rows) → IsTree t → (d : ℕ) → IsDir t d → (m : ℕ) × (up (parent_of t) m d ≡ Some 0)
dir_rooted t w d h = elim (cases_eq d 0) [
  | inl e ↦ (zero, ap (λ z. Some z) e)
  | inr ne ↦ elim (place_of t d) as (λ o. place_of t d ≡ o → (m : ℕ) × (up (parent_of t) m d ≡ Some 0)) [
    | None ↦ λ p. absurd (w.gone d ne p h)
    | Some q ↦ λ p. w.rooted d q.0 q.1 p
  ] refl
]

parent_same : (t : Rows) (u : Update) (x : ℕ) → place_of (apply t u) x ≡ place_of t x → parent_of (apply t u) x ≡ parent_of t x
parent_same t u x p = ap parent_in p

-- a row with a parent is another than one that stands nowhere
apart_by : (t : Rows) (z x y : ℕ) → parent_of t z ≡ Some y → place_of t x ≡ None → z ≢ x
apart_by t z x y p q s = let bad : ◌≡◌ {A = Option ℕ} None (Some y) = sym (ap parent_in (ap (place_of t) s ∙ q)) ∙ p in cc

parent_dir : (t : Rows) → IsTree t → (x y : ℕ) → parent_of t x ≡ Some y → IsDir t y
parent_dir t w x y p = let r = parent_entry (place_of t x) y p in w.parents x y r.0 r.1

pub rooted_kept : (t : Rows) (u : Update) → IsTree t → Fits t u → (x d : ℕ) (n : List ℕ) → IsEntry (apply t u) d n x → (m : ℕ) × (up (parent_of (apply t u)) m x ≡ Some 0)
rooted_kept t (Write id off bytes) w f x d n e =
    let u : Update = Write id off bytes in
    let r = w.rooted x d n (sym (placed_write t id off bytes x) ∙ e) in
    rerooted (parent_of t) (parent_of (apply t u)) (λ z. Unit {0}) (λ z y q p. inl (parent_same t u z (placed_write t id off bytes z) ∙ p, tt)) r.0 x tt r.1
rooted_kept t (Resize id len) w f x d n e =
    let u : Update = Resize id len in
    let r = w.rooted x d n (sym (placed_resize t id len x) ∙ e) in
    rerooted (parent_of t) (parent_of (apply t u)) (λ z. Unit {0}) (λ z y q p. inl (parent_same t u z (placed_resize t id len z) ∙ p, tt)) r.0 x tt r.1
rooted_kept t (Release id) w f x d n e =
    let u : Update = Release id in
    elim (cond_some (x == id) None (place_of t x) (Some (d, n)) (sym (placed_release t id x) ∙ e)) [
      | inl p ↦ absurd (let bad : ◌≡◌ {A = Option (ℕ × List ℕ)} None (Some (d, n)) = p.1 in cc)
      | inr p ↦ (let r = w.rooted x d n p.1 in
          rerooted (parent_of t) (parent_of (apply t u)) (λ z. Unit {0})
          (λ z y q c. inl (parent_same t u z (placed_release t id z ∙ at_apart z id None (place_of t z) (apart_by t z id y c f.1)) ∙ c, tt))
          r.0 x tt r.1)
    ]
rooted_kept t (Make dir name id k) w f x d n e =
    let u : Update = Make dir name id k in
    let was : place_of t id ≡ None = ap place f.2 in
    let step : (z y : ℕ) → Unit {0} → parent_of t z ≡ Some y → (parent_of (apply t u) z ≡ Some y × Unit {0}) ⊎ ((m : ℕ) × (up (parent_of (apply t u)) m z ≡ Some 0))
    = λ z y q c. inl (parent_same t u z (placed_make t dir name id k z ∙ at_apart z id (Some (dir, name)) (place_of t z) (apart_by t z id y c was)) ∙ c, tt) in
    elim (cond_some (x == id) (Some (dir, name)) (place_of t x) (Some (d, n)) (sym (placed_make t dir name id k x) ∙ e)) [
      | inl p ↦ (let r = dir_rooted t w dir f.0 in
          let m = rerooted (parent_of t) (parent_of (apply t u)) (λ z. Unit {0}) step r.0 dir tt r.1 in
          (suc m.0, up_first (parent_of (apply t u)) m.0 x dir (ap parent_in (placed_make t dir name id k x ∙ ap (λ b. cond b (Some (dir, name)) (place_of t x)) p.0)) ∙ m.1))
      | inr p ↦ (let r = w.rooted x d n p.1 in rerooted (parent_of t) (parent_of (apply t u)) (λ z. Unit {0}) step r.0 x tt r.1)
    ]
rooted_kept t (Remove dir name id stays) w f x d n e =
    let u : Update = Remove dir name id stays in
    elim (cond_some (x == id) None (place_of t x) (Some (d, n)) (sym (placed_remove t dir name id stays x) ∙ e)) [
      | inl p ↦ absurd (let bad : ◌≡◌ {A = Option (ℕ × List ℕ)} None (Some (d, n)) = p.1 in cc)
      | inr p ↦ (let r = w.rooted x d n p.1 in
          rerooted (parent_of t) (parent_of (apply t u)) (λ z. z ≢ id)
          (λ z y q c. inl (
            parent_same t u z (placed_remove t dir name id stays z ∙ at_apart z id None (place_of t z) q) ∙ c,
            λ s. (let h = parent_entry (place_of t z) y c in let dy : IsDir t id = subst (IsDir t) s (w.parents z y h.0 h.1) in (f.1 dy).0 z h.0 (subst (λ o. IsEntry t o h.0 z) s h.1)),
          ))
          r.0 x (eqb-false x id p.0) r.1)
    ]
rooted_kept t (Move dir name to_dir to_name id k r stays) w f x d n e =
    let u : Update = Move dir name to_dir to_name id k r stays in
    let g : ℕ → Option ℕ = parent_of (apply t u) in
    let file : (y : ℕ) → IsDir t y → r ≢ Some y = λ y h. not_replaced t to_dir to_name k r y f.4 h in
    let other : (z : ℕ) → z ≢ id → r ≢ Some z → place_of (apply t u) z ≡ place_of t z = λ z ne nr.
    placed_move t dir name to_dir to_name id k r stays f.1 f.3 z ∙ at_apart z id (Some (to_dir, to_name)) _ ne ∙ that_apart r z None (place_of t z) nr in
    let start = dir_rooted t w to_dir f.2 in
    let above : (m : ℕ) × (up g m to_dir ≡ Some 0) = rerooted (parent_of t) g (λ z. IsDir t z × IsClear t id z)
    (λ z y q c. inl (
      parent_same t u z (other z (λ s. q.1 zero (ap (λ o. Some o) s)) (file z q.0)) ∙ c,
      (parent_dir t w z y c, λ j p. q.1 (suc j) (up_first (parent_of t) j z y c ∙ p)),
    ))
    start.0 to_dir (f.2, f.5) start.1 in
    let of_id : (m : ℕ) × (up g m id ≡ Some 0) = (suc above.0, up_first g above.0 id to_dir (ap parent_in (placed_move t dir name to_dir to_name id k r stays f.1 f.3 id ∙ at_here id _ _)) ∙ above.1) in
    elim (move_stands t dir name to_dir to_name id k r stays w f d n x e) [
      | inl s ↦ subst (λ z. (m : ℕ) × (up g m z ≡ Some 0)) (sym s) of_id
      | inr p ↦ (let c = w.rooted x d n p.0 in
          rerooted (parent_of t) g (λ z. r ≢ Some z)
          (λ z y q c. elim (cases_eq z id) [
            | inl s ↦ inr (subst (λ z. (m : ℕ) × (up g m z ≡ Some 0)) (sym s) of_id)
            | inr ne ↦ inl (parent_same t u z (other z ne q) ∙ c, file y (parent_dir t w z y c))
          ]) c.0 x p.1 c.1)
    ]
  where
    that_apart : {A : Type 0} (r : Option ℕ) (z : ℕ) (a b : A) → r ≢ Some z → cond (is_that r z) a b ≡ b
    that_apart None z a b ne = refl
    that_apart (Some q) z a b ne = at_apart z q a b (λ s. ne (ap (λ o. Some o) (sym s)))
