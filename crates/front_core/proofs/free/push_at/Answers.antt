use Rattle.std.proofs.Common.{arith, ◌≡◌, ◌<◌, ◌∷◌, ◌++◌, [], length, get_or, vec_items, vec_capacity, ap, sym, subst, ◌∙◌}
use Rattle.front_core.specs.Free.{list_at, lists_in, places_in}
use Rattle.front_core.proofs.Lists.{lists_set, list_read, places_read}
use Rattle.front_core.proofs.free.push_at.Goals as goal

pub push_reserved-requires : goal.push_reserved-requires
push_reserved-requires c =
    let given = c.args.given.now in
    let d = c.index-given-from.result in
    let l : c.from.result < length given = omega arith in
    let list : list_at (lists_in given) c.args.stream ≡ vec_items (get_or given c.from.result d)
    = subst (λ z. list_at (lists_in given) z ≡ vec_items (get_or given c.from.result d)) c.from.ensures (list_read given c.from.result d l) in
    let places : get_or (places_in given) c.args.stream 0 ≡ vec_capacity (get_or given c.from.result d)
    = subst (λ z. get_or (places_in given) z 0 ≡ vec_capacity (get_or given c.from.result d)) c.from.ensures (places_read given c.from.result d l) in
    omega (arith, c.requires.place, ap length list, places, (get_or given c.from.result d).ok.0)

pub returns : goal.returns
returns c =
    let given = c.args.given.now in
    let d = c.index-given-from.result in
    let l : c.from.result < length given = omega arith in
    let list : list_at (lists_in given) c.args.stream ≡ vec_items (get_or given c.from.result d)
    = subst (λ z. list_at (lists_in given) z ≡ vec_items (get_or given c.from.result d)) c.from.ensures (list_read given c.from.result d l) in
    lists_set given c.from.result c.args.stream c.push_reserved.new.self (list_at (lists_in given) c.args.stream ++ c.args.inode ∷ []) c.from.ensures
    (c.push_reserved.ensures.items ∙ ap (λ z. z ++ c.args.inode ∷ []) (sym list))
