use Rattle.std.proofs.Common.{rules, ◌∷◌, sym, ◌∙◌, ap, refl, subst}
use Rattle.atomic_table.specs.Table.{rest}
use Rattle.turn_table.specs.declared.view.Place.TheVariants.{Front}
use Rattle.turn_table.specs.Views.{kept_handed}
use Rattle.turn_table.specs.Told.{Hands}
use Rattle.turn_table.proofs.FrontSteps.{stores_front, gives_front}
use Rattle.turn_table.proofs.turns.Turns.put_front.Goals as goal

pub store-requires : goal.store-requires
store-requires g c =
    let p = c.lay_front.ensures in
    let a = c.requires.adds in
    let q = ap (λ m. m.1) p.laid in
    let back = ap (λ m. m.0.back) p.laid in (
      p.own.0 ∙ c.requires.own,
      search rules,
      stores_front _ _ _ _ _ _ _ a.0 _ _ c.args.front a.2.0 (ap (λ m. m.0.who) p.laid ∙ a.1) (q ∙ ap (λ l. (0, Front c.args.front) ∷ rest l) (sym q)) _ _ _ (ap (λ m. m.0.front) p.laid ∙ c.requires.held.0) a.2.1 a.2.2 c.requires.fault
          (subst (λ b. Hands b (kept_handed c.args.seat.now.me.0.front) (g.F.Counted.means.handed c.args.front)) (sym back) c.requires.hands) (search rules),
    )

pub store-requires-2 : goal.store-requires-2
store-requires-2 g c =
    let p = c.lay_front.ensures in
    let q = ap (λ m. m.1) p.laid in
    let s = c.store.ensures in
    let e = s.2 c.args.front (q ∙ ap (λ l. (0, Front c.args.front) ∷ rest l) (sym q)) in
    let q' = ap (λ m. m.1) e.0 ∙ q in
    (s.0 ∙ (p.own.0 ∙ c.requires.own), search rules, gives_front _ _ _ _ _ _ _ _ c.args.front (q' ∙ ap (λ l. (0, Front c.args.front) ∷ rest l) (sym q')) _ _ _ (ap (λ m. m.0.front) e.0) refl refl refl c.requires.kin)
