use Rattle.std.proofs.Common.{ap, sym, ◌∙◌}
use Rattle.std.specs.FinMap as map
use Rattle.tree_model.proofs.Stays.{len_rows}
use Rattle.tree_model.proofs.keeping.Tree.len.Goals as goal

pub returns-clause-rows : goal.returns-clause-rows
returns-clause-rows c = c.len.ensures ∙ sym (len_rows c.self.inside.nodes) ∙ ap (λ t. map.len t) c.self.view_is
