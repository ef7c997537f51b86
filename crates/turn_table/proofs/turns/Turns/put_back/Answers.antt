use Rattle.std.proofs.Common.{rules, ◌≡◌, ◌⊎◌, ◌∷◌, sym, ◌∙◌, ap, refl, subst}
use mathlib.Core.List.{IsPrefix}
use Rattle.atomic_table.specs.Table.{rest}
use Rattle.turn_table.specs.declared.view.Place.TheVariants.{Back}
use Rattle.turn_table.specs.Views.{kept_heard}
use Rattle.turn_table.proofs.BackSteps.{stores_back, gives_back}
use Rattle.turn_table.proofs.turns.Turns.put_back.Goals as goal

pub store-requires : goal.store-requires
store-requires g c =
    let p = c.lay_back.ensures in
    let w = c.requires.writes in
    let q = ap (λ m. m.1) p.laid in
    let seen = ap (λ m. m.0.seen) p.laid in (
      p.own.0 ∙ c.requires.own,
      search rules,
      stores_back _ _ _ _ _ _ _ _ _ c.args.back (q ∙ ap (λ l. (1, Back c.args.back) ∷ rest l) (sym q)) _ _ _ _ (ap (λ m. m.0.back) p.laid ∙ c.requires.held.0)
          (subst (λ l. IsPrefix (g.B.Written.means.heard c.args.back) l ⊎ (g.B.Written.means.heard c.args.back ≡ kept_heard c.args.seat.now.me.0.back)) (sym seen) w.3) w.0 w.1 w.2 c.requires.fault (search rules),
    )

pub store-requires-2 : goal.store-requires-2
store-requires-2 g c =
    let p = c.lay_back.ensures in
    let q = ap (λ m. m.1) p.laid in
    let s = c.store.ensures in
    let e = s.2 c.args.back (q ∙ ap (λ l. (1, Back c.args.back) ∷ rest l) (sym q)) in
    let q' = ap (λ m. m.1) e ∙ q in
    (s.0 ∙ (p.own.0 ∙ c.requires.own), search rules, gives_back _ _ _ _ _ _ _ _ c.args.back (q' ∙ ap (λ l. (1, Back c.args.back) ∷ rest l) (sym q')) _ _ _ _ (ap (λ m. m.0.back) e) refl refl refl refl c.requires.kin)
