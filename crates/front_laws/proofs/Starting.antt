-- A front that was just made keeps an empty history.
use Rattle.std.proofs.Common.{◌≡◌, ◌≢◌, inl, inr, ℕ, suc, ◌<◌, List, [], ◌∷◌, length, refl, sym, ap, ◌∙◌, arith}
use Rattle.std.specs.Prelude.{Bool, true, false, cond, ◌==◌, Option, None, Some}
use Rattle.std.specs.Ordering.{nat_cmp}
use Rattle.std.specs.Cmp.{unsigned_tied}
use Rattle.std.specs.FinMap.{get, find, entries, get-entries}
use Rattle.std.proofs.lemmas.Bool.{eq-eqb, cases_lt}
use Rattle.std.proofs.lemmas.Bool.Decides.{nat_tests}
use Rattle.tree_model.specs.declared.rows.Row.{Row}
use Rattle.tree_model.specs.Rows.{Rows, IsTree}
use Rattle.history_model.specs.Answers.{larger}
use Rattle.history_model.specs.Histories.{top_serial}
use Rattle.history_laws.proofs.Runs.{sound_start}
use Rattle.carried_volumes.specs.Plain.{IsDense}
use Rattle.front_laws.specs.Laws.{EmptyHistoriesAreKept}

larger_under : (a b n : ℕ) → a < n → b < n → larger a b < n
larger_under a b n p q = grind (arith, nat_tests)

-- whose key is the first one's, or that of a later one
found_here : (e : ℕ × Row) (es : List (ℕ × Row)) → find nat_cmp e.0 (e ∷ es) ≢ None
found_here e es none =
    let here : find nat_cmp e.0 (e ∷ es) ≡ Some e.1 = ap (λ b. cond b (Some e.1) (find nat_cmp e.0 es)) (unsigned_tied e.0 e.0 ∙ eq-eqb e.0 e.0 refl) in
    let bad : ◌≡◌ {A = Option Row} (Some e.1) None = sym here ∙ none in cc

found_later : (k : ℕ) (e : ℕ × Row) (es : List (ℕ × Row)) → find nat_cmp k es ≢ None → find nat_cmp k (e ∷ es) ≢ None
found_later k e es some none = by (k == e.0) (sym (ap (λ b. cond b (Some e.1) (find nat_cmp k es)) (unsigned_tied k e.0)) ∙ none)
  where
    by : (b : Bool) → cond b (Some e.1) (find nat_cmp k es) ≡ None → ⊥
    by true p = let bad : ◌≡◌ {A = Option Row} (Some e.1) None = p in cc
    by false p = some p

-- the greatest serial is below a number that all are below
top_under : (n : ℕ) (es : List (ℕ × Row)) → 0 < n → ((k : ℕ) → find nat_cmp k es ≢ None → k < n) → top_serial es < n
top_under n [] some under = some
top_under n (e ∷ es) some under =
    larger_under e.0 (top_serial es) n (under e.0 (found_here e es)) (top_under n es some (λ k f. under k (found_later k e es f)))

-- the next serial of a dense tree is the number of its serials
next_serial : (t : Rows) (n : ℕ) → IsTree t → IsDense t n → suc (top_serial (entries t)) ≡ n
next_serial t n tree dense =
    let top : ℕ = top_serial (entries t) in
    let below : (k : ℕ) → get t k ≢ None → k < n = λ k f. elim (cases_lt k n) [ inl lt ↦ lt | inr le ↦ absurd (f (dense.above k le)) ] in
    let some : 0 < n = below 0 (λ none. let q = tree.root in let bad : ◌≡◌ {A = Option Row} None _ = sym none ∙ q.1 in cc) in
    let under : top < n = top_under n (entries t) some (λ k f. below k (λ none. f (sym (get-entries t k) ∙ none))) in
    elim (cases_lt (suc top) n) [
      | inl lt ↦ absurd (dense.below (suc top) lt ((sound_start t tree).new (suc top) (omega arith)))
      | inr le ↦ omega arith
    ]

pub empty_histories_are_kept : EmptyHistoriesAreKept
empty_histories_are_kept sizes t inodes plain have dense = record {
  plain = plain;
  have = have;
  legal = tt;
  answered = tt;
  tame = tt;
  lowest = tt;
  listed = sym (next_serial t (length inodes) plain.tree dense);
}
