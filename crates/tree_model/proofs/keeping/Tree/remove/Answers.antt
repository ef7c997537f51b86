use Rattle.std.proofs.Common.{◌≡◌, ap, sym, subst, ◌∙◌}
use Rattle.std.specs.Prelude.{IsTrue}
use Rattle.tree_model.specs.declared.rows.Update.TheVariants.{Remove}
use Rattle.tree_model.specs.Updates.{apply}
use Rattle.tree_model.specs.Tests.{applies}
use Rattle.tree_model.specs.Nodes.{rows_in, on_node, left_in, counted_node, without_entry}
use Rattle.tree_model.proofs.Changes.{After, after_remove}
use Rattle.tree_model.proofs.keeping.Tree.remove.Goals as goal

-- the steps, one upon the other
steps : (c : goal.After-count) → c.count.new.self ≡ on_node counted_node (left_in c.args.stays (on_node (without_entry c.args.name) c.self.inside.nodes c.args.dir) c.args.id) c.args.dir
steps c =
    c.count.ensures ∙ ap (λ m. on_node counted_node m c.args.dir) (c.leave.ensures ∙ ap (λ m. left_in c.args.stays m c.args.id) c.drop_entry.ensures)

after : (c : goal.After-count) → After c.self.inside.nodes (Remove c.args.dir c.args.name c.args.id c.args.stays) c.count.new.self
after c =
    let m = c.self.inside.nodes in
    let u = Remove c.args.dir c.args.name c.args.id c.args.stays in
    let may : IsTrue (applies (rows_in m) u) = subst (λ t. IsTrue (applies t u)) (sym c.self.view_is) c.requires in
    subst (After m u) (sym (steps c)) (after_remove m c.self.invariant c.args.dir c.args.name c.args.id c.args.stays may)

pub invariant_of-self : goal.invariant_of-self
invariant_of-self c = (after c).kept

pub returns : goal.returns
returns c = (after c).rows ∙ ap (λ t. apply t (Remove c.args.dir c.args.name c.args.id c.args.stays)) c.self.view_is
