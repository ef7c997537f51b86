use Rattle.std.proofs.Common.{ap, sym, subst, ◌∙◌}
use Rattle.std.specs.Prelude.{IsTrue}
use Rattle.std.proofs.lemmas.Result.{on_ok_weaker, on_err_weaker}
use Rattle.tree_model.specs.declared.rows.Update.TheVariants.{Resize}
use Rattle.tree_model.specs.Updates.{apply}
use Rattle.tree_model.specs.Tests.{applies}
use Rattle.ccfs_base.specs.Contents.{resized}
use Rattle.tree_model.specs.Nodes.{AreIndexed, rows_in, on_node, refilled_node}
use Rattle.tree_model.proofs.Stays.{on_both}
use Rattle.tree_model.proofs.Changes.{After, after_resize}
use Rattle.tree_model.proofs.keeping.Tree.resize.Goals as goal

after : (c : goal.After-resize) → After c.self.inside.nodes (Resize c.args.id c.args.len) (on_node (refilled_node (resized c.args.len)) c.self.inside.nodes c.args.id)
after c =
    let m = c.self.inside.nodes in
    let may : IsTrue (applies (rows_in m) (Resize c.args.id c.args.len)) = subst (λ t. IsTrue (applies t (Resize c.args.id c.args.len))) (sym c.self.view_is) c.requires in
    after_resize m c.self.invariant c.args.id c.args.len may

pub invariant_of-self : goal.invariant_of-self
invariant_of-self c =
    on_both c.resize.result
    (on_ok_weaker c.resize.result (λ is. subst AreIndexed (sym is) (after c).kept) c.resize.ensures.ok)
    (on_err_weaker c.resize.result (λ is. subst AreIndexed (sym is) c.self.invariant) c.resize.ensures.err)

pub returns-clause-ok : goal.returns-clause-ok
returns-clause-ok c =
    on_ok_weaker c.resize.result (λ is. ap rows_in is ∙ (after c).rows ∙ ap (λ t. apply t (Resize c.args.id c.args.len)) c.self.view_is) c.resize.ensures.ok
