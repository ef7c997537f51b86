use Rattle.std.proofs.Common.{◌≡◌, ◌<◌, ◌-◌, List, [], length, refl, sym, ap, subst, ◌∙◌, arith, map, set, get_or, true, false, Some, None, Option, Vec, Global, vec_capacity}
use Rattle.std.specs.Prelude.{is_some}
use Rattle.std.proofs.lemmas.List.{map-set, length-set}
use Rattle.file_bodies.specs.declared.batches.Sealed.{Sealed}
use Rattle.stream_txn.specs.Updates.{without}
use Rattle.stream_txn.specs.Accounts.{AreSumsOf}
use Rattle.stream_txn.specs.Kept.{TxnLists, AreTxnsOf, HasOpRoom, next}
use Rattle.stream_txn.specs.Space.{kept_in, IsPlace, IsHeld}
use Rattle.stream_txn.proofs.Sums.{sealed, part_of_all}
use Rattle.stream_txn.proofs.Holding.{has_room, held_sealed}
use Rattle.stream_txn.proofs.txns.Txns.seal.Goals as goal

pub overflow_sub-self : goal.overflow_sub-self
overflow_sub-self c =
    let part = part_of_all c.self.inside.accounts c.self.inside.ops.logs c.self.inside.gave_blocks c.self.inside.gave_rows c.self.invariant.sums.0 c.args.stream c.self.invariant.sums.1 in
    rw c.take_account-account.ensures.taken part.0

pub overflow_sub-self-2 : goal.overflow_sub-self-2
overflow_sub-self-2 c =
    let part = part_of_all c.self.inside.accounts c.self.inside.ops.logs c.self.inside.gave_blocks c.self.inside.gave_rows c.self.invariant.sums.0 c.args.stream c.self.invariant.sums.1 in
    rw c.take_account-account.ensures.taken part.1

pub push_or_move-requires-clause-room : goal.push_or_move-requires-clause-room
push_or_move-requires-clause-room c =
    let kept = kept_in c.self.inside.accounts c.self.inside.gave_blocks c.self.inside.gave_rows c.self.inside.ops c.self.inside.places c.self.inside.seals c.self.inside.queue.items in
    let there : get_or kept.places c.args.stream false ≡ true = subst (λ (k : TxnLists). get_or k.places c.args.stream false ≡ true) (sym c.self.view_is) c.requires.place in
    let is : get_or c.self.inside.places c.args.stream None ≡ Some c.unwrap-place.result = (cc) in
    let own = subst (λ (p : Option (Vec Sealed Global)). IsPlace p) is (c.self.invariant.own c.args.stream) in
    omega (arith, has_room kept c.self.inside.places (vec_capacity c.self.inside.queue) (vec_capacity c.unwrap-place.result) c.args.stream c.self.invariant there own.1, c.self.inside.queue.ok.0)

pub invariant_of-self : goal.invariant_of-self
invariant_of-self c =
    let accounts : c.args.stream < length c.self.inside.accounts = omega arith in
    let logs : c.args.stream < length c.self.inside.ops.logs = omega (arith, c.self.invariant.streams) in
    let unsealed = c.self.invariant.sums.0 in
    let kept = kept_in c.self.inside.accounts c.self.inside.gave_blocks c.self.inside.gave_rows c.self.inside.ops c.self.inside.places c.self.inside.seals c.self.inside.queue.items in
    let there : get_or kept.places c.args.stream false ≡ true = subst (λ (k : TxnLists). get_or k.places c.args.stream false ≡ true) (sym c.self.view_is) c.requires.place in
    let sums : AreSumsOf c.take_account-account.new.accounts c.take.new.self.logs (c.self.inside.gave_blocks - c.take_account-account.result.gave_blocks)
    (c.self.inside.gave_rows - c.take_account-account.result.gave_rows) (without c.args.stream unsealed)
    = rw c.take_account-account.ensures.taken
    (sealed c.self.inside.accounts c.take_account-account.new.accounts c.self.inside.ops.logs c.take.new.self.logs c.self.inside.gave_blocks c.self.inside.gave_rows unsealed c.args.stream
    accounts logs c.take_account-account.ensures.left c.take.ensures.left c.self.invariant.sums.1) in
    let streams : length c.take.new.self.logs ≡ 64 = omega (arith, c.self.invariant.streams, ap length c.take.ensures.left, length-set c.self.inside.ops.logs c.args.stream []) in
    let batch : Sealed = record {
      stream = c.args.stream;
      number = next c.self.inside.seals;
      weight = c.take_account-account.result.weight;
      recs = c.args.recs;
      ops = c.of-ops.result;
    } in
    subst (λ (z : List (Option (Vec Sealed Global))). IsHeld (kept_in c.take_account-account.new.accounts (c.self.inside.gave_blocks - c.take_account-account.result.gave_blocks)
    (c.self.inside.gave_rows - c.take_account-account.result.gave_rows) c.take.new.self z (next c.self.inside.seals) c.push_or_move.new.queue.items) z (vec_capacity c.push_or_move.new.queue))
    (sym c.take_place.ensures.left)
    (held_sealed kept (kept_in c.take_account-account.new.accounts (c.self.inside.gave_blocks - c.take_account-account.result.gave_blocks)
    (c.self.inside.gave_rows - c.take_account-account.result.gave_rows) c.take.new.self (set c.self.inside.places c.args.stream None) (next c.self.inside.seals) c.push_or_move.new.queue.items)
    c.self.inside.places (vec_capacity c.self.inside.queue) (vec_capacity c.push_or_move.new.queue) c.args.stream batch c.self.invariant there (without c.args.stream unsealed) sums streams
    c.push_or_move.ensures.items refl refl (map-set _ c.self.inside.places c.args.stream None) c.push_or_move.ensures.capacity)

pub returns-clause-txns : goal.returns-clause-txns
returns-clause-txns c = λ unsealed sums.
    let accounts : c.args.stream < length c.self.inside.accounts = omega arith in
    let logs : c.args.stream < length c.self.inside.ops.logs = omega (arith, c.self.invariant.streams) in
    rw c.take_account-account.ensures.taken
    (sealed c.self.inside.accounts c.take_account-account.new.accounts c.self.inside.ops.logs c.take.new.self.logs c.self.inside.gave_blocks c.self.inside.gave_rows unsealed c.args.stream
    accounts logs c.take_account-account.ensures.left c.take.ensures.left (subst (λ (k : TxnLists). AreTxnsOf k unsealed) (sym c.self.view_is) sums))

pub returns-clause-places : goal.returns-clause-places
returns-clause-places c =
    ap (λ (z : List (Option (Vec Sealed Global))). map (λ p. is_some p) z) c.take_place.ensures.left ∙ map-set _ c.self.inside.places c.args.stream None
    ∙ ap (λ (k : TxnLists). set k.places c.args.stream false) c.self.view_is

pub returns-clause-room : goal.returns-clause-room
returns-clause-room c = λ s count h. c.take.ensures.room s count (subst (λ (k : TxnLists). HasOpRoom k s count) (sym c.self.view_is) h)
