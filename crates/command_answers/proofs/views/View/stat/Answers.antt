use Rattle.std.proofs.Common.{ap, ◌∙◌}
use Rattle.history_model.specs.Answers.{from_row, stat}
use Rattle.command_answers.specs.Viewing.{left_alone}
use Rattle.command_answers.proofs.views.View.stat.Goals as goal

pub returns-in-Ok : goal.returns-in-Ok
returns-in-Ok c = λ sizes fit. c.stat_at.ensures sizes fit ∙ ap (λ r. from_row r (stat sizes (left_alone c.args.self.now.tree.now))) c.in-Ok.ensures
