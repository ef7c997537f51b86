use Rattle.std.proofs.Common.{◌≡◌, Ok, ap, ◌∙◌}
use Rattle.tree_model.specs.Walk.{walk}
use Rattle.history_model.specs.Answers.{from_row, stat}
use Rattle.plain_model.proofs.keeping.State.stat_path.Goals as goal

pub returns-in-Ok : goal.returns-in-Ok
returns-in-Ok c sizes =
    let there : Ok c.in-Ok.id ≡ walk c.args.self.now.tree c.args.path.now 0 = c.in-Ok.ensures ∙ ap (λ n. walk n.tree c.args.path.now 0) c.self.view_is in
    c.stat.ensures sizes ∙ ap (λ r. from_row r (stat sizes c.args.self.now)) there
