use Rattle.std.proofs.Common.{◌∙◌, [], ◌∷◌, ◌++◌, ap, sym, refl}
use Rattle.turn_table.specs.Views.{kept}
use Rattle.turn_tests.proofs.toys.post.Goals as goal

pub put_front-requires-clause-adds : goal.put_front-requires-clause-adds
put_front-requires-clause-adds g c =
    let taken = c.take_front-history.ensures.taken.1 in
    (c.args.call.caller, ap (λ m. m.0.who) taken ∙ c.requires.idle.0, (c.args.call ∷ [], c.in-Ok.ensures.items ∙ ap (λ p. kept p ++ c.args.call ∷ []) (sym (ap (λ m. m.0.front) taken)), (refl, tt)))
