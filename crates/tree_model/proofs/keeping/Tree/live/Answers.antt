use Rattle.std.proofs.Common.{ap, sym, ◌∙◌}
use Rattle.tree_model.specs.Weights.{live}
use Rattle.tree_model.proofs.LiveKept.{live_kept}
use Rattle.tree_model.proofs.keeping.Tree.live.Goals as goal

pub returns-clause-sum : goal.returns-clause-sum
returns-clause-sum c = c.live.ensures.sum ∙ sym (live_kept c.self.inside.nodes) ∙ ap (λ t. live t) c.self.view_is
