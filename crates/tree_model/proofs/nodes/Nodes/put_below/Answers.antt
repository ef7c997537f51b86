use Rattle.std.proofs.Common.{ap, ◌∙◌}
use Rattle.std.specs.FinMap as map
use Rattle.std.specs.Cmp.{nat_cmp_total}
use Rattle.tree_model.proofs.MapView.{remove_put}
use Rattle.tree_model.proofs.nodes.Nodes.put_below.Goals as goal

pub returns-in-Err-clause-err : goal.returns-in-Err-clause-err
returns-in-Err-clause-err c =
    c.take_out.ensures ∙ ap (λ m. map.remove m c.args.id) (c.in-Err.ensures.err ∙ c.in_ok-put.ensures.ok)
    ∙ remove_put nat_cmp_total map.nat_cmp-IsAntisymmetric c.args.self.now c.args.id c.args.node c.requires
