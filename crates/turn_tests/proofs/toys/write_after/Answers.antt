use Rattle.std.proofs.Common.{◌∙◌, [], ◌++◌, ap, sym}
use Rattle.std.proofs.lemmas.List.{append-nil}
use Rattle.turn_table.specs.Views.{kept}
use Rattle.turn_tests.proofs.toys.write_after.Goals as goal

pub take_front-history-requires-clause-caller : goal.take_front-history-requires-clause-caller
take_front-history-requires-clause-caller g c = (c.args.caller, ap (λ m. m.0.who) c.wait_for.ensures.told.1 ∙ (ap (λ m. m.0.who) c.take_back-writer.ensures.taken.1 ∙ c.requires.idle.0))

pub put_front-requires-clause-adds : goal.put_front-requires-clause-adds
put_front-requires-clause-adds g c =
    let taken = c.take_front-history.ensures.taken.1 in
    let who = ap (λ m. m.0.who) c.wait_for.ensures.told.1 ∙ (ap (λ m. m.0.who) c.take_back-writer.ensures.taken.1 ∙ c.requires.idle.0) in
    (c.args.caller, ap (λ m. m.0.who) taken ∙ who, ([], sym (append-nil c.take_front-history.result.calls.items) ∙ ap (λ p. kept p ++ []) (sym (ap (λ m. m.0.front) taken)), tt))
