use Rattle.std.proofs.Common.{◌≡◌, false, ap, sym, ◌∙◌}
use Rattle.std.proofs.lemmas.Result.{IfOk-weaker}
use Rattle.history_model.specs.State.{ignores_in}
use Rattle.plain_model.proofs.Moves.{past}
use Rattle.plain_model.proofs.keeping.State.fsync.Goals as goal

pub returns : goal.returns
returns c =
    let now = c.args.self.now in
    let minds : ignores_in now.choices c.args.actor ≡ false
    = sym (c.ignores_in.ensures ∙ ap (λ l. ignores_in l c.args.actor) (c.deref.ensures.value ∙ ap (λ n. n.choices) c.self.view_is)) ∙ c.if-ignores_in.false in
    IfOk-weaker c.file_sync.result _ _ (λ a e sizes. e sizes ∙ past _ _ _ minds) c.file_sync.ensures
