use Rattle.std.proofs.Common.{◌∙◌}
use Rattle.std.proofs.lemmas.Result.{IfOk-weaker}
use Rattle.command_answers.proofs.Seen.{list_seen}
use Rattle.command_answers.proofs.answering.answer_list.Goals as goal

pub returns : goal.returns
returns c = λ sizes n s sees. IfOk-weaker c.list.result _ _ (λ a e. e ∙ list_seen sizes n s c.args.view.now sees c.args.skip c.args.path.now) (c.list.ensures sizes)
