-- A chain of parents has fewer steps than the tree has rows, so that many steps find every row above.
use Rattle.std.proofs.Common.{◌≡◌, ℕ, zero, suc, ◌-◌, ◌≤◌, ◌<◌, ◌≢◌, inl, inr, refl, sym, ap, arith, ◌∙◌}
use Rattle.std.specs.Prelude.{Bool, true, false, cond, ◌||◌, is_some, ◌==◌}
use Rattle.std.specs.declared.option.Option.{Option}
use Rattle.std.specs.declared.option.Option.TheVariants.{None, Some}
use Rattle.std.specs.Ordering.{nat_cmp}
use Rattle.std.specs.Cmp.{nat_cmp_total, unsigned_tied}
use Rattle.std.specs.FinMap.{empty, get, remove, len, get-remove, len-remove, empty_of_len, get-empty}
use Rattle.std.proofs.lemmas.Bool.{eqb-true, eq-eqb, ne_eqb, cases_eq}
use Rattle.tree_model.specs.Rows.{Rows, kind, parent_of, up, IsDir, IsTree}
use Rattle.tree_model.specs.Tests.{is_above}
use Rattle.tree_model.proofs.Chains.{up_first, up_last, no_circle, chain_dirs}

-- rows of t on a chain of f, each another
abbrev pub Chain : (ℕ → Option ℕ) → Rows → ℕ → ℕ → Type 0
Chain f t zero x = is_some (get t x) ≡ true
Chain f t (suc m) x = (is_some (get t x) ≡ true) × ((y : ℕ) × (f x ≡ Some y) × Chain f t m y)

there_without : (t : Rows) (x y : ℕ) → y ≢ x → is_some (get t y) ≡ true → is_some (get (remove t x) y) ≡ true
there_without t x y ne c = ap (λ o. is_some o) (get-remove nat_cmp_total t x y ∙ ap (λ b. cond b None (get t y)) (unsigned_tied y x ∙ ne_eqb y x ne)) ∙ c

-- a chain stays when another row is taken out
chain_without : (f : ℕ → Option ℕ) (t : Rows) (x m y : ℕ) → ((j : ℕ) → j ≤ m → up f j y ≢ Some x) → Chain f t m y → Chain f (remove t x) m y
chain_without f t x zero y ne c = there_without t x y (λ e. ne zero (omega arith) (ap (λ z. Some z) e)) c
chain_without f t x (suc m) y ne c = (
  there_without t x y (λ e. ne zero (omega arith) (ap (λ z. Some z) e)) c.0,
  (c.1.0, c.1.1, chain_without f t x m c.1.0 (λ j le e. ne (suc j) (omega arith) (up_first f j y c.1.0 c.1.1 ∙ e)) c.1.2),
)

len_above : (t : Rows) (x : ℕ) → is_some (get t x) ≡ true → 0 < len t
len_above t x p = elim (cases_eq (len t) 0) [
  | inl e ↦ absurd (let q : t ≡ empty = empty_of_len t e in let r : false ≡ true = sym (ap (λ o. is_some o) (ap (λ m. get m x) q ∙ get-empty nat_cmp x)) ∙ p in cc)
  | inr ne ↦ omega arith
]

-- a chain to the top of m steps needs more than m rows
pub chain_short : (f : ℕ → Option ℕ) (top : ℕ) → f top ≡ None → (m : ℕ) (t : Rows) (x : ℕ) → up f m x ≡ Some top → Chain f t m x → m < len t
chain_short f top n zero t x p c = len_above t x c
chain_short f top n (suc m) t x p c =
    let y : ℕ = c.1.0 in
    let e : f x ≡ Some y = c.1.1 in
    let q : up f m y ≡ Some top = sym (up_first f m x y e) ∙ p in
    let rest = chain_short f top n m (remove t x) y q (chain_without f t x m y (λ j le bad. no_circle f (suc m) j x top n p (up_first f j x y e ∙ bad)) c.1.2) in
    let l : len (remove t x) ≡ len t - 1 = len-remove nat_cmp_total t x ∙ ap (λ b. cond b (len t - 1) (len t)) c.0 in omega arith

-- the chain of a directory is one of the tree's rows
some_kind : (t : Rows) (x : ℕ) → IsDir t x → is_some (get t x) ≡ true
some_kind t x h = elim (get t x) as (λ o. kind o ≡ Some true → is_some o ≡ true) [ None ↦ λ e. absurd (let z : ◌≡◌ {A = Option Bool} None (Some true) = e in cc) | Some r ↦ λ e. refl ] h

pub dir_chain : (t : Rows) → IsTree t → (m d : ℕ) → IsDir t d → up (parent_of t) m d ≡ Some 0 → Chain (parent_of t) t m d
dir_chain t w zero d h p = some_kind t d h
dir_chain t w (suc m) d h p = (
  some_kind t d h,
  elim (parent_of t d) as (λ o. parent_of t d ≡ o → (y : ℕ) × (o ≡ Some y) × Chain (parent_of t) t m y) [
    | None ↦ λ e. absurd (let z : ◌≡◌ {A = Option ℕ} None (Some 0) = sym (up_last (parent_of t) m d e) ∙ p in cc)
    | Some y ↦ λ e. (y, refl, dir_chain t w m y (chain_dirs t w 1 d y h e) (sym (up_first (parent_of t) m d y e) ∙ p))
  ] refl,
)

-- what the test finds is above, and it finds all that is at most that many steps up
pub above_up : (fuel : ℕ) (t : Rows) (x d : ℕ) → is_above fuel t x (Some d) ≡ true → (k : ℕ) × (up (parent_of t) k d ≡ Some x)
above_up zero t x d p = (zero, ap (λ z. Some z) (eqb-true d x p))
above_up (suc fuel) t x d p = elim (d == x) as (λ b. d == x ≡ b → (b || is_above fuel t x (parent_of t d)) ≡ true → (k : ℕ) × (up (parent_of t) k d ≡ Some x)) [
  | true ↦ λ e q. (zero, ap (λ z. Some z) (eqb-true d x e))
  | false ↦ λ e q. elim (parent_of t d) as (λ o. parent_of t d ≡ o → is_above fuel t x o ≡ true → (k : ℕ) × (up (parent_of t) k d ≡ Some x)) [
    | None ↦ λ s r. absurd (cc)
    | Some y ↦ λ s r. (let ih = above_up fuel t x y r in (suc ih.0, up_first (parent_of t) ih.0 d y s ∙ ih.1))
  ] refl q
] refl p

pub up_above : (fuel : ℕ) (t : Rows) (x d k : ℕ) → k ≤ fuel → up (parent_of t) k d ≡ Some x → is_above fuel t x (Some d) ≡ true
up_above zero t x d zero le p = let q : ◌≡◌ {A = Option ℕ} (Some d) (Some x) = p in let e : d ≡ x = cc in eq-eqb d x e
up_above zero t x d (suc k) le p = absurd (omega arith)
up_above (suc fuel) t x d zero le p = let q : ◌≡◌ {A = Option ℕ} (Some d) (Some x) = p in let e : d ≡ x = cc in ap (λ b. b || is_above fuel t x (parent_of t d)) (eq-eqb d x e)
up_above (suc fuel) t x d (suc k) le p = elim (d == x) as (λ b. (b || is_above fuel t x (parent_of t d)) ≡ true) [
  | true ↦ refl
  | false ↦ elim (parent_of t d) as (λ o. parent_of t d ≡ o → is_above fuel t x o ≡ true) [
    | None ↦ λ s. absurd (let z : ◌≡◌ {A = Option ℕ} None (Some x) = sym (up_last (parent_of t) k d s) ∙ p in cc)
    | Some y ↦ λ s. up_above fuel t x y k (omega arith) (sym (up_first (parent_of t) k d y s) ∙ p)
  ] refl
]
