use Rattle.std.proofs.Common.{◌<◌, ℕ, List, length, ap, sym, subst, ◌∙◌, arith}
use Rattle.std.specs.Prelude.{slice_index_or}
use Rattle.std.proofs.Math.ListN.{replicate}
use Rattle.std.proofs.lemmas.List.{get_or-replicate}
use Rattle.front_core.specs.declared.pending.Pending.{Pending}
use Rattle.front_core.specs.declared.state.State.{State}
use Rattle.front_core.proofs.FrontOf.{listed_below, short_list, taken_by, none_pending, front_of}
use Rattle.front_core.proofs.front.Front.of.Goals as goal

pub overflow_cast-next : goal.overflow_cast-next
overflow_cast-next c =
    let few = short_list c.args.geometry.now c.args.tree c.args.inodes c.requires.have c.requires.dense in
    let same = ap length c.all.ensures in omega (arith, few, same)

pub of-requires-2 : goal.of-requires-2
of-requires-2 c =
    let count = c.args.geometry.now.inodes in
    subst (λ (l : List ℕ). (i : ℕ) → i < length l → slice_index_or l i 0 < count) (sym c.all-3.ensures) (listed_below count c.args.inodes c.args.tree c.requires.have c.requires.dense)

pub invariant_of-result : goal.invariant_of-result
invariant_of-result c =
    let g = c.args.geometry.now in
    let t = c.args.tree in
    let all = c.args.inodes in
    let parts : Pending = record { meta = c.of.result; txns = c.new.result; keys = c.new-2.result; free = c.in_ok-of.field-0 } in
    let state : State = record { tree = c.in_ok-copy.field-0; next = length c.all.result.now; streams = replicate 64 0; inodes = c.in_ok-from_slice.field-0; pending = parts } in
    front_of g c.args.limit t all c.new-3.result.items state c.requires.plain c.requires.have c.requires.dense c.requires.limit.1
    c.new-3.ensures.items c.in_ok-copy.ensures (ap length c.all.ensures) (λ actor below. get_or-replicate 64 actor 0 0 below) (c.in_ok-from_slice.ensures.items ∙ c.all-2.ensures)
    (none_pending g.inodes all t c.args.metadata parts c.of.ensures c.requires.metadata c.new.ensures.txns c.new-2.ensures
    (taken_by g.inodes all c.all-3.result.now t c.in_ok-of.field-0 c.all-3.ensures c.requires.have c.requires.dense c.in_ok-of.ensures.taken))
    c.new.ensures.seals c.new.ensures.queue
