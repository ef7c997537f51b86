use Rattle.std.proofs.Common.{rules, ◌∷◌, sym, ap, ◌∙◌}
use Rattle.atomic_table.specs.Table.{rest}
use Rattle.turn_table.specs.declared.view.Place.TheVariants.{Back}
use Rattle.turn_table.proofs.BackSteps.{takes_back}
use Rattle.turn_table.proofs.turns.Turns.try_back.Goals as goal

pub compare_exchange-requires : goal.compare_exchange-requires
compare_exchange-requires g c = (c.requires.own, search rules, takes_back _ _ _ _ _ _ _ _ _ c.requires.caller.1)

pub exchange-requires : goal.exchange-requires
exchange-requires g c =
    let e = c.compare_exchange.ensures in
    let t = e.2.0 (search rules) in
    (e.0 ∙ c.requires.own, (_, t.1 ∙ ap (λ l. (1, Back t.0) ∷ rest l) (sym t.1)))
