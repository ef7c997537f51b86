-- The rows of the numbers below n.
use Rattle.std.proofs.Common.{◌≡◌, ℕ, zero, suc, ◌<◌, sym, ap, ◌∙◌, inl, inr, arith}
use Rattle.std.specs.Prelude.{cond, nat_lt, Option, None}
use Rattle.std.specs.Ordering.{nat_cmp}
use Rattle.std.specs.FinMap.{get, get-empty}
use Rattle.std.proofs.lemmas.Bool.{cases_eq, cases_lt, eq-eqb, ne_eqb, lt-ltb, le-ltb}
use Rattle.tree_model.specs.declared.rows.Row.{Row}
use Rattle.tree_model.proofs.Edited.{get_store}
use Rattle.image_model.specs.Trees.{rows_below}

still : (row : ℕ → Option Row) (n x : ℕ) → x < n → cond (nat_lt x n) (row x) None ≡ cond (nat_lt x (suc n)) (row x) None
still row n x below = ap (λ b. cond b (row x) None) (lt-ltb x n below ∙ sym (lt-ltb x (suc n) (omega arith)))

none_yet : (row : ℕ → Option Row) (n x : ℕ) → n < x → cond (nat_lt x n) (row x) None ≡ cond (nat_lt x (suc n)) (row x) None
none_yet row n x above = ap (λ b. cond b (row x) None) (le-ltb x n (omega arith) ∙ sym (le-ltb x (suc n) (omega arith)))

pub rows_are_those : (row : ℕ → Option Row) (n x : ℕ) → get (rows_below row n) x ≡ cond (nat_lt x n) (row x) None
rows_are_those row zero x = get-empty nat_cmp x ∙ sym (ap (λ b. cond b (row x) None) (le-ltb x 0 (omega arith)))
rows_are_those row (suc n) x = get_store (rows_below row n) n (row n) x ∙ elim (cases_eq x n) [
  | inl same ↦ ap (λ b. cond b (row n) (get (rows_below row n) x)) (eq-eqb x n same) ∙ ap row (sym same)
      ∙ sym (ap (λ b. cond b (row x) None) (lt-ltb x (suc n) (omega arith)))
  | inr other ↦ ap (λ b. cond b (row n) (get (rows_below row n) x)) (ne_eqb x n other) ∙ rows_are_those row n x
      ∙ elim (cases_lt x n) [ inl below ↦ still row n x below | inr above ↦ none_yet row n x (omega arith) ]
]
