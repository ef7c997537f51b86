use Rattle.std.proofs.Common.{ap, sym, ◌∙◌}
use Rattle.std.specs.declared.option.Option.TheVariants.{Some}
use Rattle.std.specs.FinMap as map
use Rattle.tree_model.proofs.Stays.{get_rows, row_in}
use Rattle.tree_model.proofs.keeping.Tree.row.Goals as goal

pub returns-in-Some : goal.returns-in-Some
returns-in-Some c =
    ap (λ r. Some r) c.row.ensures ∙ ap row_in c.in-Some.ensures ∙ sym (get_rows c.self.inside.nodes c.args.id) ∙ ap (λ t. map.get t c.args.id) c.self.view_is

pub returns-in-None : goal.returns-in-None
returns-in-None c = ap row_in c.in-None.ensures ∙ sym (get_rows c.self.inside.nodes c.args.id) ∙ ap (λ t. map.get t c.args.id) c.self.view_is
