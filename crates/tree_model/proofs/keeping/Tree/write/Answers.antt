use Rattle.std.proofs.Common.{◌≡◌, ap, sym, subst, ◌∙◌}
use Rattle.std.specs.Prelude.{IsTrue}
use Rattle.std.proofs.lemmas.Result.{on_ok_weaker, on_err_weaker}
use Rattle.tree_model.specs.declared.rows.Update.TheVariants.{Write}
use Rattle.tree_model.specs.Updates.{apply}
use Rattle.tree_model.specs.Tests.{applies}
use Rattle.ccfs_base.specs.Contents.{written}
use Rattle.tree_model.specs.Nodes.{AreIndexed, rows_in, on_node, refilled_node}
use Rattle.tree_model.proofs.Stays.{on_both}
use Rattle.tree_model.proofs.Changes.{After, after_write}
use Rattle.tree_model.proofs.keeping.Tree.write.Goals as goal

after : (c : goal.After-write_at) → After c.self.inside.nodes (Write c.args.id c.args.off c.args.bytes.now) (on_node (refilled_node (written c.args.off c.args.bytes.now)) c.self.inside.nodes c.args.id)
after c =
    let m = c.self.inside.nodes in
    let may : IsTrue (applies (rows_in m) (Write c.args.id c.args.off c.args.bytes.now)) = subst (λ t. IsTrue (applies t (Write c.args.id c.args.off c.args.bytes.now))) (sym c.self.view_is) c.requires in
    after_write m c.self.invariant c.args.id c.args.off c.args.bytes.now may

-- the bytes that are handed on are those of the update
same : (c : goal.After-write_at) → on_node (refilled_node (written c.args.off c.all.result.now)) c.self.inside.nodes c.args.id ≡ on_node (refilled_node (written c.args.off c.args.bytes.now)) c.self.inside.nodes c.args.id
same c = ap (λ b. on_node (refilled_node (written c.args.off b)) c.self.inside.nodes c.args.id) c.all.ensures

pub invariant_of-self : goal.invariant_of-self
invariant_of-self c =
    on_both c.write_at.result
    (on_ok_weaker c.write_at.result (λ is. subst AreIndexed (sym (is ∙ same c)) (after c).kept) c.write_at.ensures.ok)
    (on_err_weaker c.write_at.result (λ is. subst AreIndexed (sym is) c.self.invariant) c.write_at.ensures.err)

pub returns-clause-ok : goal.returns-clause-ok
returns-clause-ok c =
    on_ok_weaker c.write_at.result (λ is. ap rows_in (is ∙ same c) ∙ (after c).rows ∙ ap (λ t. apply t (Write c.args.id c.args.off c.args.bytes.now)) c.self.view_is) c.write_at.ensures.ok
