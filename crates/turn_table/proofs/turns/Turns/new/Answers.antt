use Rattle.std.proofs.Common.{rules, ◌≡◌, List, [], ◌∷◌, subst}
use Rattle.atomic_table.specs.Table.{opening}
use Rattle.turn_table.specs.declared.view.Place.{Place}
use Rattle.turn_table.specs.declared.view.Place.TheVariants.{Front, Back}
use Rattle.turn_table.specs.Views.{first_view}
use Rattle.turn_table.specs.Rule.{Ruled}
use Rattle.turn_table.proofs.Ends.{opens}
use Rattle.turn_table.proofs.turns.Turns.new.Goals as goal

pub new-requires : goal.new-requires
new-requires g c =
    let M = g.F.Counted.means in
    let caller = g.F.Name.Naming.caller in
    let N = g.B.Written.means in
    let front : c.args.front ≡ c.of.result.value = search rules in
    let back : c.args.back ≡ c.of-2.result.value = search rules in
    let items : Front c.args.front ∷ Back c.args.back ∷ [] ≡ c.in_ok-slots.slots.items = search rules in
    subst (λ (x : List (Place g.row.F.Denot g.row.B.Denot) × g.row.F.Denot × g.row.B.Denot). Ruled M caller N x.1 x.2 (opening (0 ∷ c.count.result ∷ 0 ∷ c.count-2.result ∷ []) x.0 (first_view M N x.1 x.2))) (λ i. (items i, front i, back i))
    (opens M caller N c.args.front c.args.back _ (λ i. 0 ∷ c.count.ensures i ∷ 0 ∷ c.count-2.ensures i ∷ []) c.requires)
