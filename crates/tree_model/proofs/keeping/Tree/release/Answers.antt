use Rattle.std.proofs.Common.{ap, sym, subst, ◌∙◌}
use Rattle.std.specs.Prelude.{IsTrue}
use Rattle.tree_model.specs.declared.rows.Update.TheVariants.{Release}
use Rattle.tree_model.specs.Updates.{apply}
use Rattle.tree_model.specs.Tests.{applies}
use Rattle.tree_model.specs.Nodes.{AreIndexed, rows_in}
use Rattle.tree_model.proofs.Changes.{after_release}
use Rattle.tree_model.proofs.keeping.Tree.release.Goals as goal

pub invariant_of-self : goal.invariant_of-self
invariant_of-self c =
    let m = c.self.inside.nodes in
    let u = Release c.args.id in
    let may : IsTrue (applies (rows_in m) u) = subst (λ t. IsTrue (applies t u)) (sym c.self.view_is) c.requires in
    subst AreIndexed (sym c.take_out.ensures) (after_release m c.self.invariant c.args.id may).kept

pub returns : goal.returns
returns c =
    let m = c.self.inside.nodes in
    let u = Release c.args.id in
    let may : IsTrue (applies (rows_in m) u) = subst (λ t. IsTrue (applies t u)) (sym c.self.view_is) c.requires in
    ap rows_in c.take_out.ensures ∙ (after_release m c.self.invariant c.args.id may).rows ∙ ap (λ t. apply t u) c.self.view_is
