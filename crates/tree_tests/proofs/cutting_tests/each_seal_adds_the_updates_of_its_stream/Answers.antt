use Rattle.std.proofs.Common.{◌≡◌, true, false, sym, ap, subst, ◌∙◌, rules}
use Rattle.std.specs.Prelude.{IsTrue}
use Rattle.tree_model.specs.declared.rows.Update.{Update}
use Rattle.tree_model.specs.declared.rows.Update.TheVariants.{Make}
use Rattle.tree_model.specs.Rows.{Rows, IsTree}
use Rattle.tree_model.specs.Updates.{apply}
use Rattle.tree_model.specs.Tests.{applies}
use Rattle.tree_model.specs.Laws.{Applies}
use Rattle.tree_model.proofs.Fitting.{applies_fits}
use Rattle.tree_tests.proofs.cutting_tests.each_seal_adds_the_updates_of_its_stream.Goals as goal

applies_at : (t s : Rows) (u : Update) → s ≡ t → IsTree s → IsTrue (applies s u) → Applies t u
applies_at t s u same tree passed = subst (λ z. Applies z u) same (tree, (applies_fits s u tree).0 passed)

pub tree_of_cut-requires-2 : goal.tree_of_cut-requires-2
tree_of_cut-requires-2 g c =
    let dir : Update = Make 0 c.in_ok-parse.field-0 1 true in
    let passed : IsTrue (applies c.in_ok-between.between dir) = search rules in
    (applies_at c.in_ok-opening.opening c.in_ok-between.between dir c.in_ok-between.ensures (subst IsTree (sym c.in_ok-between.ensures) c.is_a_tree.ensures) passed, tt)

pub tree_of_cut-requires-3 : goal.tree_of_cut-requires-3
tree_of_cut-requires-3 g c =
    let dir : Update = Make 0 c.in_ok-parse.field-0 1 true in
    let file : Update = Make 1 c.in_ok-parse-2.field-0 2 false in
    let made : c.apply.new.self ≡ apply c.in_ok-opening.opening dir = c.in_ok-apply.ensures.ok ∙ ap (λ t. apply t dir) c.in_ok-between.ensures in
    let first : IsTrue (applies c.in_ok-between.between dir) = search rules in
    let second : IsTrue (applies c.apply.new.self file) = search rules in (
      applies_at c.in_ok-opening.opening c.in_ok-between.between dir c.in_ok-between.ensures (subst IsTree (sym c.in_ok-between.ensures) c.is_a_tree.ensures) first,
      (applies_at (apply c.in_ok-opening.opening dir) c.apply.new.self file made c.is_a_tree-2.ensures second, tt),
    )
