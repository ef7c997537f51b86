-- A chain of parents has no circle, and above a directory there are only directories.
use Rattle.std.proofs.Common.{◌≡◌, ℕ, zero, suc, List, refl, sym, ap, subst, ◌∙◌}
use Rattle.std.specs.Prelude.{Bool, true, false}
use Rattle.std.specs.declared.option.Option.{Option}
use Rattle.std.specs.declared.option.Option.TheVariants.{None, Some}
use Rattle.tree_model.specs.Rows.{Rows, place, place_of, kind_of, parent_in, parent_of, up_from, up, IsDir, IsFile, IsEntry, IsClear, IsTree}

pub up_first : (f : ℕ → Option ℕ) (k x y : ℕ) → f x ≡ Some y → up f (suc k) x ≡ up f k y
up_first f zero x y p = p
up_first f (suc k) x y p = ap (up_from f) (up_first f k x y p)

pub up_last : (f : ℕ → Option ℕ) (k x : ℕ) → f x ≡ None → up f (suc k) x ≡ None
up_last f zero x p = p
up_last f (suc k) x p = ap (up_from f) (up_last f k x p)

-- a chain that reaches a row without a parent has no circle
pub no_circle : (f : ℕ → Option ℕ) (m c x top : ℕ) → f top ≡ None → up f m x ≡ Some top → up f (suc c) x ≡ Some x → ⊥
no_circle f zero c x top n p q =
    let e : ◌≡◌ {A = Option ℕ} (Some x) (Some top) = p in let same : x ≡ top = cc in
    let bad : ◌≡◌ {A = Option ℕ} None (Some x) = sym (up_last f c x (ap f same ∙ n)) ∙ q in cc
no_circle f (suc m) c x top n p q =
    elim (f x) as (λ o. f x ≡ o → ⊥) [
      | None ↦ λ e. let bad : ◌≡◌ {A = Option ℕ} None (Some top) = sym (up_last f m x e) ∙ p in cc
      | Some y ↦ λ e. no_circle f m c y top n (sym (up_first f m x y e) ∙ p) (sym (up_first f (suc c) x y e) ∙ ap (up_from f) q ∙ e)
    ] refl

pub parent_entry : (o : Option (ℕ × List ℕ)) (z : ℕ) → parent_in o ≡ Some z → (n : List ℕ) × (o ≡ Some (z, n))
parent_entry None z p = absurd (cc)
parent_entry (Some q) z p = let e : q.0 ≡ z = cc in (q.1, ap (λ w. Some (w, q.1)) e)

-- each row on the chain of a directory is a directory
pub chain_dirs : (t : Rows) → IsTree t → (k d y : ℕ) → IsDir t d → up (parent_of t) k d ≡ Some y → IsDir t y
chain_dirs t w zero d y h p = let q : ◌≡◌ {A = Option ℕ} (Some d) (Some y) = p in let e : d ≡ y = cc in subst (IsDir t) e h
chain_dirs t w (suc k) d y h p = elim (up (parent_of t) k d) as (λ o. up (parent_of t) k d ≡ o → up_from (parent_of t) o ≡ Some y → IsDir t y) [
  | None ↦ λ e q. absurd (cc)
  | Some x ↦ λ e q. let r = parent_entry (place_of t x) y q in w.parents x y r.0 r.1
] refl p

pub root_top : (t : Rows) → IsTree t → parent_of t 0 ≡ None
root_top t w = let r = w.root in ap (λ o. parent_in (place o)) r.1

some_apart : (a b : Bool) (o : Option Bool) → o ≡ Some a → o ≡ Some b → a ≡ b
some_apart a b o p q = let r : ◌≡◌ {A = Option Bool} (Some a) (Some b) = sym p ∙ q in cc

pub not_both : (t : Rows) (x : ℕ) → IsFile t x → IsDir t x → ⊥
not_both t x p q = let r : false ≡ true = some_apart false true (kind_of t x) p q in cc

-- no directory is below a file
pub clear_of_file : (t : Rows) → IsTree t → (x d : ℕ) → IsFile t x → IsDir t d → IsClear t x d
clear_of_file t w x d f h k p = not_both t x f (chain_dirs t w k d x h p)

-- a parent is not below its child
pub clear_of_child : (t : Rows) → IsTree t → (x d : ℕ) (n : List ℕ) → IsEntry t d n x → IsClear t x d
clear_of_child t w x d n e k p =
    let r = w.rooted x d n e in
    no_circle (parent_of t) r.0 k x 0 (root_top t w) r.1 (up_first (parent_of t) k x d (ap parent_in e) ∙ p)
