use Rattle.std.proofs.Common.{arith, ◌≡◌, ◌<◌, length, get_or, vec_items, ap, sym, subst, ◌∙◌}
use Rattle.front_laws.specs.Inodes.{has}
use Rattle.front_core.specs.Free.{list_at, lists_in}
use Rattle.front_core.proofs.Lists.{list_read}
use Rattle.front_core.proofs.free.free_at.Goals as goal

pub mark_all-requires : goal.mark_all-requires
mark_all-requires c i p =
    let given = c.args.given.now in
    let d = c.index-given-from.result in
    let l : c.from.result < length given = omega arith in
    let list : list_at (lists_in given) c.args.stream ≡ vec_items d
    = subst (λ z. list_at (lists_in given) z ≡ vec_items (get_or given c.from.result d)) c.from.ensures (list_read given c.from.result d l)
    ∙ ap vec_items (sym c.index-given-from.is) in
    c.requires.below c.args.stream i (ap (has i) (list ∙ sym c.deref.ensures.value) ∙ p)
