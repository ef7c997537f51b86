use Rattle.std.proofs.Common.{◌≡◌, Some, ap, ◌∙◌}
use Rattle.history_model.specs.State.{file_in}
use Rattle.history_model.specs.Answers.{at_handle, close}
use Rattle.plain_model.proofs.keeping.State.close_handle.Goals as goal

pub returns-in-Some : goal.returns-in-Some
returns-in-Some c sizes =
    let there : Some c.in-Some.id ≡ file_in c.args.self.now.handles c.args.actor c.args.handle
    = c.in-Some.ensures ∙ ap (λ l. file_in l c.args.actor c.args.handle) (c.deref.ensures.value ∙ ap (λ n. n.handles) c.self.view_is) in
    c.close.ensures sizes ∙ ap (λ o. at_handle o (close sizes c.args.self.now c.args.actor c.args.handle)) there
