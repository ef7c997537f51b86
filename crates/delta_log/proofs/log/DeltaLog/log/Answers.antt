use Rattle.std.proofs.Common.{subst}
use Rattle.ccfs_base.specs.Logs.{IsCalled}
use Rattle.record_logs.specs.Kept.{log_of, logs_of, call_by}
use Rattle.delta_log.proofs.Held.{deltas_logged}
use Rattle.delta_log.proofs.log.DeltaLog.log.Goals as goal

pub invariant_of-self : goal.invariant_of-self
invariant_of-self c =
    let called : IsCalled (logs_of c.self.inside.logs) (call_by c.args.stream c.args.rec) (logs_of c.use_first.new.self)
    = c.use_first.ensures (call_by c.args.stream c.args.rec) (c.is_first.ensures.forth c.if-is_first.true) in
    deltas_logged (log_of c.self.inside.logs) (log_of c.use_first.new.self) c.args.stream c.args.rec c.requires.delta called.log c.self.invariant

pub returns-then-is_first-clause-ok : goal.returns-then-is_first-clause-ok
returns-then-is_first-clause-ok c =
    subst (λ z. IsCalled (logs_of z) (call_by c.args.stream c.args.rec) (logs_of c.use_first.new.self)) c.self.view_is
    (c.use_first.ensures (call_by c.args.stream c.args.rec) (c.is_first.ensures.forth c.if-is_first.true))
