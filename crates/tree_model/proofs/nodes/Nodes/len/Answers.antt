use Rattle.std.proofs.Common.{ap, sym, ◌∙◌}
use Rattle.std.specs.FinMap as map
use Rattle.std.specs.Cmp.{nat_cmp_total}
use Rattle.tree_model.proofs.MapView.{len_view}
use Rattle.tree_model.proofs.nodes.Nodes.len.Goals as goal

pub returns : goal.returns
returns c = c.len.ensures.len ∙ sym (len_view nat_cmp_total map.nat_cmp-IsAntisymmetric c.self.inside.nodes.entries c.len.ensures.ordered) ∙ ap (λ m. map.len m) c.self.view_is
