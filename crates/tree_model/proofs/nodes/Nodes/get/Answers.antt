use Rattle.std.proofs.Common.{ap, sym, ◌∙◌}
use Rattle.std.specs.FinMap as map
use Rattle.std.specs.Cmp.{nat_cmp_total}
use Rattle.tree_model.proofs.MapView.{get_view}
use Rattle.tree_model.proofs.nodes.Nodes.get.Goals as goal

pub returns : goal.returns
returns c = c.get.ensures.value ∙ sym (get_view nat_cmp_total c.self.inside.nodes.entries c.args.id) ∙ ap (λ m. map.get m c.args.id) c.self.view_is
