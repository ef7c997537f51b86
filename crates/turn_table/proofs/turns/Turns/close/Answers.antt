use Rattle.std.proofs.Common.{◌≡◌, subst, sym, ◌∙◌, ap}
use mathlib.Core.Option.{some, some-injective}
use lib.ListN.{get_elem?}
use Rattle.turn_table.specs.Told.{Closes}
use Rattle.turn_table.proofs.Ends.{closes, front_place_is, back_place_is}
use Rattle.turn_table.proofs.turns.Turns.close.Goals as goal

pub front_in-requires : goal.front_in-requires
front_in-requires g c =
    let first = c.requires.ended in
    let got = closes _ _ _ _ _ _ _ _ _ _ first.1 first.2 c.close_with-closed.ensures.values.2 in
    (got.0, some-injective _ _ (sym c.take-front.ensures.value ∙ got.2))

pub back_in-requires : goal.back_in-requires
back_in-requires g c =
    let first = c.requires.ended in
    let got = closes _ _ _ _ _ _ _ _ _ _ first.1 first.2 c.close_with-closed.ensures.values.2 in
    (got.1, some-injective _ _ (sym c.take-back.ensures.value ∙ (ap (λ l. get_elem? l 1) c.take-front.ensures.others.0 ∙ got.3)))

pub returns : goal.returns
returns g c =
    let M = g.F.Counted.means in
    let caller = g.F.Name.Naming.caller in
    let N = g.B.Written.means in
    let first = c.requires.ended in
    let got = closes _ _ _ _ _ _ _ _ _ _ first.1 first.2 c.close_with-closed.ensures.values.2 in
    let front : got.0 ≡ c.front_in.result = front_place_is _ _ (some-injective _ _ (sym got.2 ∙ (c.take-front.ensures.value ∙ ap some c.front_in.ensures))) in
    let back : got.1 ≡ c.back_in.result = back_place_is _ _ (some-injective _ _ (sym got.3 ∙ (sym (ap (λ l. get_elem? l 1) c.take-front.ensures.others.0) ∙ (c.take-back.ensures.value ∙ ap some c.back_in.ensures)))) in
    subst (λ (x : g.row.F.Denot × g.row.B.Denot). Closes M caller N c.args.self.table.shared.key.front.value c.args.self.table.shared.key.back.value c.args.seat.me.0 x.0 x.1) (λ i. (front i, back i)) got.4
