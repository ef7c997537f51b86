-- A list in preorder by the entries of directories is that of the rows, and no row is as many levels down as there are inodes.
use Rattle.std.proofs.Common.{◌≡◌, ℕ, zero, suc, ◌+◌, ◌-◌, ◌<◌, ◌≤◌, List, [], ◌∷◌, ◌++◌, refl, sym, ap, ◌∙◌, inl, inr, arith}
use Rattle.std.proofs.Math.Path.{ap₂}
use Rattle.std.specs.Prelude.{Bool, true, false, cond, Option, Some, None, map, flat_map}
use Rattle.std.specs.Ordering.{nat_cmp}
use Rattle.std.specs.Cmp.{nat_cmp_total}
use Rattle.std.specs.FinMap.{len, len-empty, len-insert, len-remove, contains_key}
use Rattle.tree_model.specs.declared.rows.Row.{Row}
use Rattle.tree_model.specs.Rows.{Rows, parent_of, up, up_from, IsTree}
use Rattle.tree_model.specs.Updates.{store}
use Rattle.tree_model.specs.Entries.{children}
use Rattle.tree_model.proofs.Chains.{up_last, root_top}
use Rattle.tree_model.proofs.Above.{chain_short}
use Rattle.image_model.specs.Trees.{rows_below, preorder}
use Rattle.image_model.proofs.PreorderLists.{In}
use Rattle.image_model.proofs.Preorder.{is_row, row_chain}
use Rattle.image_check.specs.Listed.{listed}

-- ---- the same entries, the same list

same_flat : {Y : Type 0} (g : ℕ → List Y) (h : List ℕ × ℕ → List Y) → ((e : List ℕ × ℕ) → g e.1 ≡ h e) → (es : List (List ℕ × ℕ)) → flat_map g (map (λ e. e.1) es) ≡ flat_map h es
same_flat g h same [] = refl
same_flat g h same (e ∷ es) = ap₂ (λ x y. x ++ y) (same e) (same_flat g h same es)

pub same_walk : (t : Rows) (below : ℕ → List ℕ) → ((x : ℕ) → below x ≡ map (λ e. e.1) (children t x)) → (levels x : ℕ) → listed below levels x ≡ preorder levels t x
same_walk t below same zero x = refl
same_walk t below same (suc l) x =
    ap (λ ys. x ∷ flat_map (listed below l) ys) (same x)
    ∙ ap (λ z. x ∷ z) (same_flat (listed below l) (λ e. preorder l t e.1) (λ e. same_walk t below same l e.1) (children t x))

-- ---- more levels than there are give no more

flat_in : (g h : ℕ → List ℕ) (xs : List ℕ) → ((y : ℕ) → In xs y → g y ≡ h y) → flat_map g xs ≡ flat_map h xs
flat_in g h [] same = refl
flat_in g h (x ∷ xs) same = ap₂ (λ a b. a ++ b) (same x (inl refl)) (flat_in g h xs (λ y i. same y (inr i)))

flat_none : (g : ℕ → List ℕ) (xs : List ℕ) → ((y : ℕ) → In xs y → ⊥) → flat_map g xs ≡ []
flat_none g [] none = refl
flat_none g (x ∷ xs) none = absurd (none x (inl refl))

module _ (below : ℕ → List ℕ) (f : ℕ → Option ℕ) (child : (x y : ℕ) → In (below x) y → f y ≡ Some x) where
  one_deeper : (l x : ℕ) → ((y : ℕ) → up f (suc l) y ≡ Some x → ⊥) → listed below (suc l) x ≡ listed below l x
  one_deeper zero x none = ap (λ z. x ∷ z) (flat_none (listed below zero) (below x) (λ y i. none y (child x y i)))
  one_deeper (suc l) x none = ap (λ z. x ∷ z) (flat_in (listed below (suc l)) (listed below l) (below x)
      (λ y i. one_deeper l y (λ z p. none z (ap (up_from f) p ∙ child x y i))))

  pub deeper : (more l x : ℕ) → ((m y : ℕ) → l < m → up f m y ≡ Some x → ⊥) → listed below (more + l) x ≡ listed below l x
  deeper zero l x none = let e : 0 + l ≡ l = omega arith in ap (λ n. listed below n x) e
  deeper (suc more) l x none =
      let e : suc more + l ≡ suc (more + l) = omega arith in
      ap (λ n. listed below n x) e ∙ one_deeper (more + l) x (λ y p. none (suc (more + l)) y (omega arith) p) ∙ deeper more l x none

-- ---- no row is as many levels down as there are rows

module _ (t : Rows) (tree : IsTree t) where
  has_parent : (m x : ℕ) → up (parent_of t) (suc m) x ≡ Some 0 → (y : ℕ) × (parent_of t x ≡ Some y)
  has_parent m x p = elim (parent_of t x) as (λ o. parent_of t x ≡ o → (y : ℕ) × (o ≡ Some y)) [
    | None ↦ λ e. absurd (let z : ◌≡◌ {A = Option ℕ} None (Some 0) = sym (up_last (parent_of t) m x e) ∙ p in cc)
    | Some y ↦ λ e. (y, refl)
  ] refl

  pub no_longer : (m x : ℕ) → len t < m → up (parent_of t) m x ≡ Some 0 → ⊥
  no_longer zero x less p = omega arith
  no_longer (suc m) x less p =
      let w = has_parent m x p in
      let short : suc m < len t = chain_short (parent_of t) 0 (root_top t tree) (suc m) t x p (row_chain t tree (suc m) x (is_row t tree x w.0 w.1) p) in
      omega arith

-- ---- how many rows there are

at_most : (b : Bool) (n : ℕ) → cond b n (n + 1) ≤ n + 1
at_most true n = omega arith
at_most false n = omega arith

no_more : (b : Bool) (n : ℕ) → cond b (n - 1) n ≤ n
no_more true n = omega arith
no_more false n = omega arith

one_more : (t : Rows) (x : ℕ) (o : Option Row) → len (store t x o) ≤ len t + 1
one_more t x None =
    let e : len (store t x None) ≡ cond (contains_key t x) (len t - 1) (len t) = len-remove nat_cmp_total t x in
    let l = no_more (contains_key t x) (len t) in
    omega arith
one_more t x (Some r) =
    let e : len (store t x (Some r)) ≡ cond (contains_key t x) (len t) (len t + 1) = len-insert nat_cmp_total t x r in
    let l = at_most (contains_key t x) (len t) in
    omega arith

pub few_rows : (row : ℕ → Option Row) (n : ℕ) → len (rows_below row n) ≤ n
few_rows row zero = let e : len (rows_below row 0) ≡ 0 = len-empty nat_cmp Row in omega arith
few_rows row (suc n) = let l = few_rows row n in let m = one_more (rows_below row n) n (row n) in omega arith
