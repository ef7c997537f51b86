use Rattle.std.proofs.Common.{◌≡◌, Ok, ap, ◌∙◌}
use Rattle.std.proofs.lemmas.Result.{IfOk-weaker}
use Rattle.tree_model.specs.Walk.{walk}
use Rattle.history_model.specs.Answers.{from_row, read}
use Rattle.plain_model.proofs.keeping.State.read_path.Goals as goal

pub returns-in-Ok : goal.returns-in-Ok
returns-in-Ok c =
    let there : Ok c.in-Ok.id ≡ walk c.args.self.now.tree c.args.path.now 0 = c.in-Ok.ensures ∙ ap (λ n. walk n.tree c.args.path.now 0) c.self.view_is in
    IfOk-weaker c.read.result _ _ (λ a e sizes. e sizes ∙ ap (λ r. from_row r (read sizes c.args.self.now c.args.off c.args.size)) there) c.read.ensures
