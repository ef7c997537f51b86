use Rattle.std.proofs.Common.{◌∙◌, sym}
use Rattle.plain_model.proofs.OneStep.{own_number, other_number}
use Rattle.plain_model.proofs.cutting.number_in.Goals.{then-of-stream, else-of-stream}
use Rattle.plain_model.proofs.cutting.number_in.Goals as goal

pub loop-of-preserved : goal.loop-of-preserved
loop-of-preserved c =
    let ps = c.args.seals.now in
    let i = c.loop-of.of-index in
    elim c.if-of-stream.branch [
      | then-of-stream w ↦ w.kept-is ∙ sym (own_number ps i (0, 0) c.args.stream c.loop-of-test.true w.if-of-stream.true)
      | else-of-stream w ↦ w.kept-is ∙ c.loop-of.invariant ∙ sym (other_number ps i (0, 0) c.args.stream c.loop-of-test.true w.if-of-stream.false)
    ]
