use Rattle.std.proofs.Common.{sym, subst, ◌∙◌}
use Rattle.tree_model.specs.Rows.{IsTree}
use Rattle.history_model.specs.Answers.{rename}
use Rattle.command_answers.specs.Viewing.{IsReady}
use Rattle.command_answers.proofs.Seen.{rename_seen}
use Rattle.command_answers.proofs.Ready.{ready_if, rename_ready}
use Rattle.command_answers.proofs.answering.answer_rename.Goals as goal

pub returns-clause-told : goal.returns-clause-told
returns-clause-told c = λ sizes n s sees. c.rename.ensures sizes ∙ rename_seen sizes n s c.args.view.now sees c.args.path.now c.args.to.now

pub returns-clause-ready : goal.returns-clause-ready
returns-clause-ready c = λ sizes n s sees.
    ready_if (IsReady n.tree) c.rename.result.reply c.rename.result.update (rename sizes n c.args.path.now c.args.to.now)
    (c.rename.ensures sizes ∙ rename_seen sizes n s c.args.view.now sees c.args.path.now c.args.to.now)
    (rename_ready sizes n (subst IsTree (sym sees.tree) c.is_a_tree.ensures) sees.closed c.args.path.now c.args.to.now c.is_a_path.ensures c.is_a_path-2.ensures)
