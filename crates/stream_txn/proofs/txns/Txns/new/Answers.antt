use Rattle.std.proofs.Common.{◌≡◌, length, refl, ap, ◌∙◌, arith, vec_capacity}
use Rattle.std.specs.Prelude.{is_some}
use Rattle.stream_txn.specs.Space.{kept_in}
use Rattle.stream_txn.proofs.Sums.{sums_of_none}
use Rattle.stream_txn.proofs.Queue.{seen}
use Rattle.stream_txn.proofs.Holding.{held_none}
use Rattle.stream_txn.proofs.txns.Txns.new.Goals as goal

pub invariant_of-result : goal.invariant_of-result
invariant_of-result c =
    let long : length c.no_places.result ≡ 64 = omega arith in
    held_none (kept_in c.no_accounts.result 0 0 c.new.result c.no_places.result 0 c.new-2.result.items) c.no_places.result (vec_capacity c.new-2.result)
    (sums_of_none c.no_accounts.result c.new.result.logs c.no_accounts.ensures c.new.ensures.ops) c.new.ensures.streams c.new-2.ensures.items refl long c.no_places.ensures

pub returns-clause-txns : goal.returns-clause-txns
returns-clause-txns c = sums_of_none c.no_accounts.result c.new.result.logs c.no_accounts.ensures c.new.ensures.ops

pub returns-clause-places : goal.returns-clause-places
returns-clause-places c = λ stream. seen c.no_places.result stream ∙ ap (λ p. is_some p) (c.no_places.ensures stream)
