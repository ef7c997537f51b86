use Rattle.std.proofs.Common.{ap, ◌∙◌}
use Rattle.std.proofs.lemmas.Result.{IfOk-weaker}
use Rattle.history_model.specs.Answers.{from_row, listing}
use Rattle.command_answers.specs.Viewing.{left_alone}
use Rattle.command_answers.proofs.views.View.list.Goals as goal

pub returns-in-Ok : goal.returns-in-Ok
returns-in-Ok c = λ sizes.
    IfOk-weaker c.list_at.result _ _ (λ a e. e ∙ ap (λ r. from_row r (listing sizes (left_alone c.args.self.now.tree.now) c.args.skip)) c.in-Ok.ensures) (c.list_at.ensures sizes)
