use Rattle.std.proofs.Common.{◌∙◌, [], ◌++◌, ap, sym}
use Rattle.std.proofs.lemmas.List.{append-nil}
use Rattle.turn_table.specs.Views.{kept}
use Rattle.turn_bench.proofs.values.pass.Goals as goal

pub put_front-requires-clause-adds : goal.put_front-requires-clause-adds
put_front-requires-clause-adds g c =
    let taken = c.take_front-history.ensures.taken.1 in
    (c.args.caller, ap (λ m. m.0.who) taken ∙ c.requires.idle.0, ([], sym (append-nil c.take_front-history.result.calls.items) ∙ ap (λ p. kept p ++ []) (sym (ap (λ m. m.0.front) taken)), tt))
