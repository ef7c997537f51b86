use Rattle.std.proofs.Common.{ap, sym, ◌∙◌}
use Rattle.history_model.specs.State.{stream_in}
use Rattle.history_model.specs.Answers.{answer, at_path, stat, listing}
use Rattle.command_answers.specs.Viewing.{IsReady}
use Rattle.command_answers.proofs.Ready.{ready_if, stat_ready, list_ready}
use Rattle.command_answers.proofs.answering.answer.Goals as goal

pub returns-in-Unlink-clause-told : goal.returns-in-Unlink-clause-told
returns-in-Unlink-clause-told c = λ sizes n actor sees. c.answer_unlink.ensures.told sizes n (stream_in n.choices actor) sees ∙ ap (answer sizes n actor) (sym c.in-Unlink.is)

pub returns-in-Rmdir-clause-told : goal.returns-in-Rmdir-clause-told
returns-in-Rmdir-clause-told c = λ sizes n actor sees. c.answer_rmdir.ensures.told sizes n (stream_in n.choices actor) sees ∙ ap (answer sizes n actor) (sym c.in-Rmdir.is)

pub returns-in-Stat-clause-told : goal.returns-in-Stat-clause-told
returns-in-Stat-clause-told c = λ sizes n actor sees. c.answer_stat.ensures sizes n (stream_in n.choices actor) sees ∙ ap (answer sizes n actor) (sym c.in-Stat.is)

pub returns-in-Stat-clause-ready : goal.returns-in-Stat-clause-ready
returns-in-Stat-clause-ready c = λ sizes n s sees.
    ready_if (IsReady n.tree) c.answer_stat.result.reply c.answer_stat.result.update (at_path n.tree c.in-Stat.path (stat sizes n)) (c.answer_stat.ensures sizes n s sees) (stat_ready (IsReady n.tree) sizes n c.in-Stat.path)

pub returns-in_ok-listed-in-List-clause-told : goal.returns-in_ok-listed-in-List-clause-told
returns-in_ok-listed-in-List-clause-told c = λ sizes n actor sees. c.in_ok-listed-in-List.ensures sizes n (stream_in n.choices actor) sees ∙ ap (answer sizes n actor) (sym c.in-List.is)

pub returns-in_ok-listed-in-List-clause-ready : goal.returns-in_ok-listed-in-List-clause-ready
returns-in_ok-listed-in-List-clause-ready c = λ sizes n s sees.
    let listed = c.in_ok-listed-in-List.listed in
    ready_if (IsReady n.tree) listed.reply listed.update (at_path n.tree c.in-List.path (listing sizes n c.in-List.skip)) (c.in_ok-listed-in-List.ensures sizes n s sees) (list_ready (IsReady n.tree) sizes n c.in-List.skip c.in-List.path)
