use Rattle.std.proofs.Common.{ap, ◌∙◌}
use Rattle.std.specs.FinMap as map
use Rattle.std.specs.Cmp.{nat_cmp_total}
use Rattle.tree_model.proofs.MapView.{removed_view}
use Rattle.tree_model.proofs.nodes.Nodes.take_out.Goals as goal

pub returns : goal.returns
returns c =
    removed_view nat_cmp_total map.nat_cmp-IsAntisymmetric c.self.inside.nodes.entries c.remove.new.self.entries c.args.id c.remove.ensures.updates.0
    ∙ ap (λ m. map.remove m c.args.id) c.self.view_is
