use Rattle.std.proofs.Common.{subst, ◌∙◌}
use Rattle.command_answers.specs.Viewing.{FilesFit}
use Rattle.command_answers.proofs.Seen.{stat_seen}
use Rattle.command_answers.proofs.answering.answer_stat.Goals as goal

pub returns : goal.returns
returns c = λ sizes n s sees. c.stat.ensures sizes (subst FilesFit sees.tree sees.files) ∙ stat_seen sizes n s c.args.view.now sees c.args.path.now
