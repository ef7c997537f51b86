use Rattle.std.proofs.Common.{ℕ, sym, ap, subst, ◌∙◌, Option, Some}
use Rattle.stream_txn.specs.Updates.{all_but, rows_of}
use Rattle.stream_txn.specs.Kept.{TxnLists, AreTxnsOf, rows_but}
use Rattle.stream_txn.proofs.Sums.{part_of_all, rest_of_all}
use Rattle.stream_txn.proofs.txns.Txns.gave_rows.Goals as goal

pub overflow_sub-result : goal.overflow_sub-result
overflow_sub-result c =
    (part_of_all c.self.inside.accounts c.self.inside.ops.logs c.self.inside.gave_blocks c.self.inside.gave_rows c.self.invariant.sums.0 c.from.result c.self.invariant.sums.1).1

pub returns-in-Some-clause-sum : goal.returns-in-Some-clause-sum
returns-in-Some-clause-sum c = λ unsealed sums.
    (rest_of_all c.self.inside.accounts c.self.inside.ops.logs c.self.inside.gave_blocks c.self.inside.gave_rows unsealed c.from.result
    (subst (λ (k : TxnLists). AreTxnsOf k unsealed) (sym c.self.view_is) sums)).1
    ∙ ap (λ (z : Option ℕ). rows_of (all_but z unsealed)) (ap Some c.from.ensures ∙ sym c.in-Some.is)

pub returns-in-Some-clause-value : goal.returns-in-Some-clause-value
returns-in-Some-clause-value c =
    ap (λ (k : TxnLists). rows_but k (Some c.from.result)) c.self.view_is ∙ ap (λ (z : Option ℕ). rows_but c.args.self.now z) (ap Some c.from.ensures ∙ sym c.in-Some.is)
