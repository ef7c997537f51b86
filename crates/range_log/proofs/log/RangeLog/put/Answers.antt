use Rattle.std.proofs.Common.{◌≡◌, true, length, sym, subst}
use Rattle.ccfs_base.specs.Logs.{IsCalled}
use Rattle.record_logs.specs.Kept.{log_of, logs_of}
use Rattle.range_log.specs.Ranges.{range_call, is_clear_of}
use Rattle.range_log.proofs.Hold.{held_put, held_pushed, same_logs}
use Rattle.range_log.proofs.log.RangeLog.put.Goals as goal

pub invariant_of-self : goal.invariant_of-self
invariant_of-self c =
    let clear : is_clear_of (log_of c.self.inside.logs) c.args.stream c.args.off (length c.args.bytes.now) ≡ true
    = subst (λ z. is_clear_of (log_of z) c.args.stream c.args.off (length c.args.bytes.now) ≡ true) (sym c.self.view_is) c.requires.clear in
    let called : IsCalled (logs_of c.self.inside.logs) (range_call c.args.stream c.args.off c.args.bytes.now) (logs_of c.use_first.new.self)
    = c.use_first.ensures (range_call c.args.stream c.args.off c.args.bytes.now) (c.is_first.ensures.forth c.if-is_first.true) in
    held_put (log_of c.self.inside.logs) (log_of c.use_first.new.self) c.args.stream c.args.off c.args.bytes.now c.requires.stream clear called.log c.self.invariant

pub returns-then-is_first-clause-ok : goal.returns-then-is_first-clause-ok
returns-then-is_first-clause-ok c =
    subst (λ z. IsCalled (logs_of z) (range_call c.args.stream c.args.off c.args.bytes.now) (logs_of c.use_first.new.self)) c.self.view_is
    (c.use_first.ensures (range_call c.args.stream c.args.off c.args.bytes.now) (c.is_first.ensures.forth c.if-is_first.true))

pub invariant_of-self-2 : goal.invariant_of-self-2
invariant_of-self-2 c =
    let clear : is_clear_of (log_of c.self.inside.logs) c.args.stream c.args.off (length c.args.bytes.now) ≡ true
    = subst (λ z. is_clear_of (log_of z) c.args.stream c.args.off (length c.args.bytes.now) ≡ true) (sym c.self.view_is) c.requires.clear in
    held_pushed c.push.result (log_of c.self.inside.logs) (log_of c.push.new.self) c.args.stream c.args.off c.args.bytes.now c.in_ok-rec.rec
    c.requires.stream clear c.in_ok-rec.ensures c.push.ensures.log (same_logs c.push.result c.self.inside.logs c.push.new.self c.push.ensures.err) c.self.invariant
