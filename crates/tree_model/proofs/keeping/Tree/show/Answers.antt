use Rattle.std.proofs.Common.{◌∷◌, [], ◌++◌, ap, sym, ◌∙◌}
use Rattle.std.specs.Prelude.{reverse}
use Rattle.std.proofs.lemmas.List.{append-nil}
use Rattle.tree_model.proofs.Showing.{head_shown, nothing_below}
use Rattle.tree_model.proofs.keeping.Tree.show.Goals as goal

pub returns-in_ok-put_ahead-clause-shown : goal.returns-in_ok-put_ahead-clause-shown
returns-in_ok-put_ahead-clause-shown c =
    c.in_ok-push.ensures.ok ∙ ap (λ i. c.args.out.now ++ i ∷ []) c.in_ok-item.ensures
    ∙ ap (λ h. c.args.out.now ++ h) (sym (head_shown c.args.self.now c.args.depth c.args.id c.in-Some.node.now c.in-Some.ensures.node))

pub returns-else-depth-levels-clause-shown : goal.returns-else-depth-levels-clause-shown
returns-else-depth-levels-clause-shown c =
    c.in_ok-push.ensures.ok ∙ ap (λ i. c.args.out.now ++ i ∷ []) c.in_ok-item.ensures
    ∙ ap (λ h. c.args.out.now ++ h) (sym (head_shown c.args.self.now c.args.depth c.args.id c.in-Some.node.now c.in-Some.ensures.node))

pub returns-in_default-clause-ahead : goal.returns-in_default-clause-ahead
returns-in_default-clause-ahead c =
    sym (append-nil c.args.ahead.now.items) ∙ ap (λ b. c.args.ahead.now.items ++ reverse b) (sym (nothing_below c.args.levels c.args.self.now c.args.depth c.args.id c.in_default.ensures.none))
