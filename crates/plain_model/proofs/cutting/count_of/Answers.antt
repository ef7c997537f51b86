use Rattle.std.proofs.Common.{◌∙◌, sym, ap, arith}
use Rattle.plain_model.proofs.OneStep.{own_count, other_count, none_entered}
use Rattle.plain_model.proofs.cutting.count_of.Goals.{in-Enter+then-of-stream, in-Enter+else-of-stream, in_default}
use Rattle.plain_model.proofs.cutting.count_of.Goals as goal

pub loop-step-preserved : goal.loop-step-preserved
loop-step-preserved c =
    let xs = c.args.steps.now in
    let i = c.loop-step.step-index in
    let x = c.step-item.result in
    let inv = c.loop-step.invariant in
    elim c.match-step.branch [
      | in-Enter+then-of-stream w ↦
          let more = own_count xs i x w.in-Enter.of w.in-Enter.update c.args.stream c.loop-step-test.true c.step-item.is w.in-Enter.is w.if-of-stream.true in
          record { same = omega (arith, more, inv.same, w.count-is); few = omega (arith, inv.few, w.count-is) }
      | in-Enter+else-of-stream w ↦
          let more = other_count xs i x w.in-Enter.of w.in-Enter.update c.args.stream c.loop-step-test.true c.step-item.is w.in-Enter.is w.if-of-stream.false in
          record { same = w.count-is ∙ inv.same ∙ sym more; few = omega (arith, inv.few, w.count-is) }
      | in_default w ↦
          let more = none_entered xs i x w.in_default.field-0 c.loop-step-test.true c.step-item.is w.in_default.is in
          record { same = w.count-is ∙ inv.same ∙ sym (ap (λ f. f c.args.stream) more); few = omega (arith, inv.few, w.count-is) }
    ]
