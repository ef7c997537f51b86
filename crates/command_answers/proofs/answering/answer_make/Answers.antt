use Rattle.std.proofs.Common.{sym, subst, ◌∙◌}
use Rattle.tree_model.specs.Rows.{IsTree}
use Rattle.history_model.specs.Answers.{make}
use Rattle.command_answers.specs.Viewing.{IsReady}
use Rattle.command_answers.proofs.Seen.{make_seen}
use Rattle.command_answers.proofs.Ready.{ready_if, make_ready}
use Rattle.command_answers.proofs.answering.answer_make.Goals as goal

pub returns-clause-told : goal.returns-clause-told
returns-clause-told c = λ sizes n s sees. c.make.ensures ∙ make_seen sizes n s c.args.view.now sees c.args.is_dir c.args.path.now

pub returns-clause-ready : goal.returns-clause-ready
returns-clause-ready c = λ sizes n s sees.
    ready_if (IsReady n.tree) c.make.result.reply c.make.result.update (make sizes n s c.args.is_dir c.args.path.now)
    (c.make.ensures ∙ make_seen sizes n s c.args.view.now sees c.args.is_dir c.args.path.now)
    (make_ready sizes n (subst IsTree (sym sees.tree) c.is_a_tree.ensures) sees.closed s sees.fresh c.args.is_dir c.args.path.now c.is_a_path.ensures)
