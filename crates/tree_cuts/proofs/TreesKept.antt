-- Updates that apply make trees, and leave the bytes of a file that they don't meet.
use Rattle.std.proofs.Common.{◌≡◌, ℕ, List, [], ◌∷◌, ◌++◌, refl, sym, ap, subst, ◌∙◌}
use Rattle.std.specs.Prelude.{true}
use Rattle.std.specs.List.{AllByRecursion}
use Rattle.stream_cuts.specs.Cuts.{kept, lost, IsKept, IsClosed}
use Rattle.stream_cuts.specs.States.{after, AllApply}
use Rattle.stream_cuts.proofs.Laws.{kept_apply}
use Rattle.tree_model.specs.declared.rows.Update.{Update}
use Rattle.tree_model.specs.Rows.{Rows, IsTree}
use Rattle.tree_model.specs.Updates.{apply}
use Rattle.tree_model.specs.Weights.{bytes_at}
use Rattle.tree_model.specs.Laws.{Applies, Meet, KeepsTrees, UpdatesSwap, OthersLeaveBytes, changes_node}
use Rattle.tree_cuts.proofs.LostApart.{lost_apart, closed_before, apply_before}

pub trees_after : KeepsTrees → (t : Rows) (h : List (ℕ × Update)) → IsTree t → AllApply Applies apply t h → IsTree (after apply t h)
trees_after keeps t [] tree a = tree
trees_after keeps t (e ∷ h) tree a = trees_after keeps (apply t e.1) h (keeps t e.1 a.0) a.1

bytes_after : OthersLeaveBytes → (t : Rows) (u : Update) (x : ℕ) (h : List (ℕ × Update)) → changes_node x u ≡ true
    → AllByRecursion (λ d. Meet d.1 u → ⊥) h → bytes_at (after apply t h) x ≡ bytes_at t x
bytes_after leave t u x [] changes apart = refl
bytes_after leave t u x (d ∷ h) changes apart = bytes_after leave (apply t d.1) u x h changes apart.1 ∙ leave t u d.1 x apart.0 changes

pub same_bytes : UpdatesSwap → OthersLeaveBytes → (t : Rows) (h : List (ℕ × Update)) (c : ℕ → ℕ) → AllApply Applies apply t h → IsClosed Meet h c
    → (before rest : List (ℕ × Update)) (e : ℕ × Update) (x : ℕ) → h ≡ before ++ e ∷ rest → IsKept c before e → changes_node x e.1 ≡ true
    → bytes_at (after apply t (kept before c)) x ≡ bytes_at (after apply t before) x
same_bytes swaps leave t h c a closed before rest e x is here changes =
    let part = kept_apply Applies apply Meet swaps t before c (apply_before Applies apply t before (e ∷ rest) (subst (AllApply Applies apply t) is a))
    (closed_before Meet c h before (e ∷ rest) closed is) in
    sym (bytes_after leave (after apply t (kept before c)) e.1 x (lost before c) changes (lost_apart Meet c h before rest e closed is here))
    ∙ ap (λ z. bytes_at z x) part.2
