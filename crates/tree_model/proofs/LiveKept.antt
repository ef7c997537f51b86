-- The blocks of all files, told from what is kept.
use Rattle.std.proofs.Common.{◌≡◌, ℕ, ◌+◌, List, [], ◌∷◌, length, refl, ap, sym, ◌∙◌}
use Rattle.std.specs.Prelude.{map}
use Rattle.std.specs.List.{sum_by}
use Rattle.std.proofs.lemmas.List.Sums.{sum_by-cons}
use Rattle.std.specs.FinMap.{entries}
use Rattle.ccfs_base.specs.Limits.{blocks}
use Rattle.tree_model.specs.declared.rows.Row.{Row}
use Rattle.tree_model.specs.Nodes.{IndexedRow, IndexedRows, rows_in}
use Rattle.tree_model.specs.Weights.{body_bytes, live}
use Rattle.tree_model.proofs.Stays.{entries_rows}

sum_rows : (f : Row → ℕ) (es : List (ℕ × IndexedRow)) → sum_by (λ (e : ℕ × Row). f e.1) (map (λ e. (e.0, e.1.0)) es) ≡ sum_by (λ (e : ℕ × IndexedRow). f e.1.0) es
sum_rows f [] = refl
sum_rows f (e ∷ es) =
    sum_by-cons (λ (e : ℕ × Row). f e.1) (e.0, e.1.0) (map (λ e. (e.0, e.1.0)) es) ∙ ap (λ z. f e.1.0 + z) (sum_rows f es)
    ∙ sym (sum_by-cons (λ (e : ℕ × IndexedRow). f e.1.0) e es)

pub live_kept : (m : IndexedRows) → live (rows_in m) ≡ sum_by (λ (e : ℕ × IndexedRow). blocks (length (body_bytes e.1.0.body))) (entries m)
live_kept m = ap (λ l. sum_by (λ (e : ℕ × Row). blocks (length (body_bytes e.1.body))) l) (entries_rows m) ∙ sum_rows (λ (r : Row). blocks (length (body_bytes r.body))) (entries m)
