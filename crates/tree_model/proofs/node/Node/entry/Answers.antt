use Rattle.std.proofs.Common.{ap, sym, ◌∙◌}
use Rattle.std.specs.FinMap as map
use Rattle.std.proofs.lemmas.Cmp.{nat_list_cmp_total}
use Rattle.tree_model.proofs.MapView.{get_view}
use Rattle.tree_model.proofs.node.Node.entry.Goals as goal

pub returns : goal.returns
returns c = c.copied.ensures ∙ c.get.ensures.value ∙ sym (get_view nat_list_cmp_total c.self.inside.entries.entries c.args.name.now) ∙ ap (λ m. map.get m.1 c.args.name.now) c.self.view_is
