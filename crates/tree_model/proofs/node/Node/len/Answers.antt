use Rattle.std.proofs.Common.{ap, sym, ◌∙◌}
use Rattle.std.specs.FinMap as map
use Rattle.std.proofs.lemmas.Cmp.{nat_list_cmp_total}
use Rattle.tree_model.proofs.MapView.{len_view, bytes_same}
use Rattle.tree_model.proofs.node.Node.len.Goals as goal

pub returns : goal.returns
returns c = c.len.ensures.len ∙ sym (len_view nat_list_cmp_total bytes_same c.self.inside.entries.entries c.len.ensures.ordered) ∙ ap (λ m. map.len m.1) c.self.view_is
