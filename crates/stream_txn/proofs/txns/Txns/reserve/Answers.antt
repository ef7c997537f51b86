use Rattle.std.proofs.Common.{◌≡◌, ◌<◌, ◌≤◌, ◌+◌, ℕ, List, length, refl, sym, ap, ◌∙◌, arith, set, get_or, map, None, Some, Option, Vec, Global, vec_capacity}
use Rattle.std.specs.Prelude.{Bool, true, is_some}
use Rattle.std.proofs.lemmas.List.{map-set, get_or-set_same}
use Rattle.file_bodies.specs.declared.batches.Sealed.{Sealed}
use Rattle.stream_txn.proofs.Queue.{seen}
use Rattle.stream_txn.specs.Kept.{TxnLists, placed}
use Rattle.stream_txn.specs.Space.{kept_in}
use Rattle.stream_txn.proofs.Holding.{held_placed}
use Rattle.stream_txn.proofs.txns.Txns.reserve.Goals as goal

pub invariant_of-self-2 : goal.invariant_of-self-2
invariant_of-self-2 c =
    let long : length c.self.inside.places ≡ 64 = omega arith in
    let below : c.from.result < 64 = omega arith in
    let capacity : 64 ≤ vec_capacity c.in_ok-place.place = omega (arith, c.in_ok-place.ensures.capacity) in
    let room : length c.self.inside.queue.items + 64 ≤ vec_capacity c.reserve.new.self
    = omega (arith, c.in_ok-reserve.ensures.ok, c.in_ok-reserve.ensures.len, c.self.inside.queue.ok.0) in
    held_placed (kept_in c.self.inside.accounts c.self.inside.gave_blocks c.self.inside.gave_rows c.self.inside.ops c.self.inside.places c.self.inside.seals c.self.inside.queue.items)
    (kept_in c.self.inside.accounts c.self.inside.gave_blocks c.self.inside.gave_rows c.self.inside.ops (set c.self.inside.places c.from.result (Some c.in_ok-place.place))
    c.self.inside.seals c.reserve.new.self.items)
    c.self.inside.places (vec_capacity c.self.inside.queue) (vec_capacity c.reserve.new.self) c.from.result (Some c.in_ok-place.place) c.self.invariant
    c.self.invariant.sums.0 c.self.invariant.sums.1 c.self.invariant.streams c.in_ok-reserve.ensures.items refl refl long below (c.in_ok-place.ensures.items, capacity) room

pub returns-clause-ok : goal.returns-clause-ok
returns-clause-ok c =
    let places : map (λ p. is_some p) (set c.self.inside.places c.from.result (Some c.in_ok-place.place)) ≡ set (map (λ p. is_some p) c.self.inside.places) c.args.stream true
    = map-set _ c.self.inside.places c.from.result (Some c.in_ok-place.place) ∙ ap (λ (n : ℕ). set (map (λ p. is_some p) c.self.inside.places) n true) c.from.ensures in
    let inside = kept_in c.self.inside.accounts c.self.inside.gave_blocks c.self.inside.gave_rows c.self.inside.ops c.self.inside.places c.self.inside.seals c.reserve.new.self.items in
    ap (λ (z : List Bool). record inside { places = z }) places
    ∙ ap (λ z. placed (kept_in c.self.inside.accounts c.self.inside.gave_blocks c.self.inside.gave_rows c.self.inside.ops c.self.inside.places c.self.inside.seals z) c.args.stream) c.in_ok-reserve.ensures.items
    ∙ ap (λ (k : TxnLists). placed k c.args.stream) c.self.view_is

pub returns-clause-there : goal.returns-clause-there
returns-clause-there c =
    let long : length c.self.inside.places ≡ 64 = omega arith in
    let below : c.from.result < length c.self.inside.places = omega arith in
    let places = set c.self.inside.places c.from.result (Some c.in_ok-place.place) in
    seen places c.args.stream
    ∙ ap (λ (p : Option (Vec Sealed Global)). is_some p) (ap (λ (n : ℕ). get_or places n None) (sym c.from.ensures)
    ∙ get_or-set_same c.self.inside.places c.from.result (Some c.in_ok-place.place) None below)
