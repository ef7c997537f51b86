use Rattle.std.proofs.Common.{sym, subst, ◌∙◌}
use Rattle.tree_model.specs.Rows.{IsTree}
use Rattle.history_model.specs.Answers.{unlink}
use Rattle.command_answers.specs.Viewing.{IsReady}
use Rattle.command_answers.proofs.Seen.{unlink_seen}
use Rattle.command_answers.proofs.Ready.{ready_if, unlink_ready}
use Rattle.command_answers.proofs.answering.answer_unlink.Goals as goal

pub returns-clause-told : goal.returns-clause-told
returns-clause-told c = λ sizes n s sees. c.unlink.ensures sizes ∙ unlink_seen sizes n s c.args.view.now sees c.args.path.now

pub returns-clause-ready : goal.returns-clause-ready
returns-clause-ready c = λ sizes n s sees.
    ready_if (IsReady n.tree) c.unlink.result.reply c.unlink.result.update (unlink sizes n c.args.path.now)
    (c.unlink.ensures sizes ∙ unlink_seen sizes n s c.args.view.now sees c.args.path.now)
    (unlink_ready sizes n (subst IsTree (sym sees.tree) c.is_a_tree.ensures) sees.closed c.args.path.now c.is_a_path.ensures)
