use Rattle.std.proofs.Common.{◌≡◌, ap, sym, subst, ◌∙◌}
use Rattle.std.specs.Prelude.{IsTrue}
use Rattle.tree_model.specs.declared.rows.Update.TheVariants.{Move}
use Rattle.tree_model.specs.Updates.{apply}
use Rattle.tree_model.specs.Tests.{applies}
use Rattle.tree_model.specs.Nodes.{rows_in, on_node, left_over, without_entry, placed_node, counted_node}
use Rattle.tree_model.proofs.Changes.{After, after_move, moved}
use Rattle.tree_model.proofs.keeping.Tree.move_row.Goals as goal

-- the steps, one upon the other
steps : (c : goal.After-count-2) → c.count-2.new.self ≡ moved c.self.inside.nodes c.args.dir c.args.name.now c.args.to_dir c.args.to_name.now c.args.id c.args.replaced c.args.stays
steps c =
    c.count-2.ensures ∙ ap (λ m. on_node counted_node m c.args.to_dir)
    (c.count.ensures ∙ ap (λ m. on_node counted_node m c.args.dir)
    (c.place.ensures ∙ ap (λ m. on_node (placed_node c.args.to_dir c.args.to_name.now) m c.args.id)
    (c.leave_replaced.ensures ∙ ap (λ m. left_over c.args.stays m c.args.replaced)
    (c.drop_entry.ensures ∙ ap (λ m. on_node (without_entry c.args.name.now) m c.args.dir) c.in_ok-put_entry.ensures.ok))))

after : (c : goal.After-count-2) → After c.self.inside.nodes (Move c.args.dir c.args.name.now c.args.to_dir c.args.to_name.now c.args.id c.args.is_dir c.args.replaced c.args.stays) c.count-2.new.self
after c =
    let m = c.self.inside.nodes in
    let u = Move c.args.dir c.args.name.now c.args.to_dir c.args.to_name.now c.args.id c.args.is_dir c.args.replaced c.args.stays in
    let may : IsTrue (applies (rows_in m) u) = subst (λ t. IsTrue (applies t u)) (sym c.self.view_is) c.requires in
    subst (After m u) (sym (steps c)) (after_move m c.self.invariant c.args.dir c.args.name.now c.args.to_dir c.args.to_name.now c.args.id c.args.is_dir c.args.replaced c.args.stays may)

pub invariant_of-self-2 : goal.invariant_of-self-2
invariant_of-self-2 c = (after c).kept

pub returns-clause-ok : goal.returns-clause-ok
returns-clause-ok c =
    (after c).rows ∙ ap (λ t. apply t (Move c.args.dir c.args.name.now c.args.to_dir c.args.to_name.now c.args.id c.args.is_dir c.args.replaced c.args.stays)) c.self.view_is
