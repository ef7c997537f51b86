use Rattle.std.proofs.Common.{◌||◌, get_or, sym, ap, subst, ◌∙◌}
use Rattle.cross_dep.specs.Kept.{Held}
use Rattle.cross_dep.specs.Marked.{is_changed}
use Rattle.cross_dep.specs.Order.{Rises}
use Rattle.cross_dep.proofs.Keyed.{clashes_at, clashes_nowhere}
use Rattle.cross_dep.proofs.marks.Marks.clashes.Goals as goal

pub returns-then-is_changed : goal.returns-then-is_changed
returns-then-is_changed c =
    let rises : Rises c.args.self.now.keys = subst (λ (z : Held). Rises z.keys) c.self.view_is c.self.invariant in
    let key = c.args.key.now in
    c.if-is_changed.true
    ∙ sym (clashes_at c.args.self.now.keys key c.in-Ok.at key rises c.in-Ok.ensures.found
    ∙ ap (λ z. z || is_changed (get_or c.args.self.now.keys c.in-Ok.at key)) (sym c.is_changed.ensures ∙ c.if-is_changed.true))

pub returns-else-is_changed : goal.returns-else-is_changed
returns-else-is_changed c =
    let rises : Rises c.args.self.now.keys = subst (λ (z : Held). Rises z.keys) c.self.view_is c.self.invariant in
    let mark = c.index.result.now in
    c.is_changed-else-is_changed.ensures ∙ ap is_changed c.index.ensures
    ∙ ap (λ (z : Held). is_changed (get_or z.keys c.in-Ok.at mark)) c.self.view_is
    ∙ sym (clashes_at c.args.self.now.keys c.args.key.now c.in-Ok.at mark rises c.in-Ok.ensures.found
    ∙ ap (λ z. z || is_changed (get_or c.args.self.now.keys c.in-Ok.at mark)) (sym c.is_changed.ensures ∙ c.if-is_changed.false))

pub returns-in-Err : goal.returns-in-Err
returns-in-Err c = sym (clashes_nowhere c.args.self.now.keys c.args.key.now _ c.in-Err.ensures.absent)
