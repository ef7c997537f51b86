-- More levels than a tree has rows show no more of it.
use Rattle.std.proofs.Common.{◌≡◌, ℕ, zero, suc, ◌+◌, List, [], ◌∷◌, ◌++◌, refl, ap, ◌∙◌, inl, inr, arith}
use Rattle.std.proofs.Math.Path.{ap₂}
use Rattle.std.specs.Prelude.{Some}
use Rattle.std.specs.List.{flat_map}
use Rattle.std.specs.FinMap.{get, len}
use Rattle.std.proofs.lemmas.List.{append-nil}
use Rattle.tree_model.specs.declared.picturing.Item.{Item}
use Rattle.tree_model.specs.Rows.{Rows, parent_in, parent_of, up, up_from, IsTree}
use Rattle.tree_model.specs.Entries.{children}
use Rattle.tree_model.specs.Picture.{head, items, picture}
use Rattle.image_model.proofs.PreorderLists.{In}
use Rattle.image_model.proofs.Preorder.{in_child}
use Rattle.image_check.proofs.Walks.{no_longer}

-- ---- items on more levels

flat_same : (g h : ℕ → List Item) (es : List (List ℕ × ℕ)) → ((e : List ℕ × ℕ) → In es e → g e.1 ≡ h e.1) → flat_map (λ e. g e.1) es ≡ flat_map (λ e. h e.1) es
flat_same g h [] same = refl
flat_same g h (e ∷ es) same = ap₂ (λ a b. a ++ b) (same e (inl refl)) (flat_same g h es (λ d i. same d (inr i)))

flat_none : (g : ℕ → List Item) (es : List (List ℕ × ℕ)) → ((e : List ℕ × ℕ) → In es e → ⊥) → flat_map (λ e. g e.1) es ≡ []
flat_none g [] none = refl
flat_none g (e ∷ es) none = absurd (none e (inl refl))

module _ (t : Rows) (tree : IsTree t) where
  -- where nothing is more than l levels below x
  one_deeper : (l depth x : ℕ) → ((y : ℕ) → up (parent_of t) (suc l) y ≡ Some x → ⊥) → items (suc l) t depth x ≡ items l t depth x
  one_deeper zero depth x none =
      ap (λ more. head t depth x (get t x) ++ more) (flat_none (items zero t (depth + 1)) (children t x) (λ e i. none e.1 (ap parent_in (in_child t tree x e i))))
      ∙ append-nil (head t depth x (get t x))
  one_deeper (suc l) depth x none =
      ap (λ more. head t depth x (get t x) ++ more) (flat_same (items (suc l) t (depth + 1)) (items l t (depth + 1)) (children t x)
      (λ e i. one_deeper l (depth + 1) e.1 (λ y p. none y (ap (up_from (parent_of t)) p ∙ ap parent_in (in_child t tree x e i)))))

  pub more_levels : (more : ℕ) → items (more + len t) t 0 0 ≡ picture t
  more_levels zero = let e : 0 + len t ≡ len t = omega arith in ap (λ levels. items levels t 0 0) e
  more_levels (suc more) =
      let e : suc more + len t ≡ suc (more + len t) = omega arith in
      ap (λ levels. items levels t 0 0) e
      ∙ one_deeper (more + len t) 0 0 (λ y p. no_longer t tree (suc (more + len t)) y (omega arith) p)
      ∙ more_levels more
