use Rattle.std.proofs.Common.{ap, ◌∙◌}
use Rattle.std.specs.FinMap as map
use Rattle.std.specs.Cmp.{nat_cmp_total}
use Rattle.tree_model.proofs.MapView.{inserted_view}
use Rattle.tree_model.proofs.nodes.Nodes.put.Goals as goal

pub returns-in-Ok-clause-ok : goal.returns-in-Ok-clause-ok
returns-in-Ok-clause-ok c =
    inserted_view nat_cmp_total map.nat_cmp-IsAntisymmetric c.self.inside.nodes.entries c.insert.new.self.entries c.args.id c.args.node c.in-Ok.ensures.updates.0
    ∙ ap (λ m. map.insert m c.args.id c.args.node) c.self.view_is
