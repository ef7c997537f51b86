use Rattle.std.proofs.Common.{ap, ◌∙◌}
use Rattle.std.proofs.lemmas.Cmp.{nat_list_cmp_total}
use Rattle.tree_model.specs.Nodes.{without_entry}
use Rattle.tree_model.proofs.MapView.{removed_view, bytes_same}
use Rattle.tree_model.proofs.node.Node.drop_entry.Goals as goal

pub returns : goal.returns
returns c =
    ap (λ z. (c.self.inside.row, z)) (removed_view nat_list_cmp_total bytes_same c.self.inside.entries.entries c.remove.new.self.entries c.args.name.now c.remove.ensures.updates.0)
    ∙ ap (without_entry c.args.name.now) c.self.view_is
