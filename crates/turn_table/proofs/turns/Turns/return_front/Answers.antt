use Rattle.std.proofs.Common.{rules, ◌∷◌, sym, ◌∙◌, ap}
use Rattle.atomic_table.specs.Table.{rest}
use Rattle.turn_table.specs.declared.view.Place.TheVariants.{Front}
use Rattle.turn_table.proofs.FrontSteps.{gives_front}
use Rattle.turn_table.proofs.turns.Turns.return_front.Goals as goal

pub store-requires : goal.store-requires
store-requires g c =
    let p = c.lay_front.ensures in
    let q = ap (λ m. m.1) p.laid in
    let same = c.requires.same in
    (p.own.0 ∙ c.requires.own, search rules, gives_front _ _ _ _ _ _ _ _ c.args.unchanged (q ∙ ap (λ l. (0, Front c.args.unchanged) ∷ rest l) (sym q)) _ _ _ (ap (λ m. m.0.front) p.laid ∙ c.requires.held.0) same.0 same.1 same.2 c.requires.kin)
