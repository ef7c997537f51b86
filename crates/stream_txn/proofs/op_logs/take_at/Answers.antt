use Rattle.std.proofs.Common.{vec_items, ap, ◌∙◌}
use Rattle.stream_txn.proofs.Memory.{ops_none, places_other}
use Rattle.stream_txn.proofs.op_logs.take_at.Goals as goal

pub returns-clause-left : goal.returns-clause-left
returns-clause-left c =
    ops_none c.args.logs.now c.from.result c.args.stream c.replace.new.dest c.from.ensures (ap vec_items c.replace.ensures.after ∙ c.new.ensures.items)

pub returns-clause-places : goal.returns-clause-places
returns-clause-places c = λ other n. places_other c.args.logs.now c.from.result other c.replace.new.dest (λ e. n (e ∙ c.from.ensures))
