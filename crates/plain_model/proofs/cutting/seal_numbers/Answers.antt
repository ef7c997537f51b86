use Rattle.std.proofs.Common.{◌++◌, ◌+◌, ◌∙◌, sym, ap}
use Rattle.plain_model.proofs.OneStep.{no_seal, one_seal, seals_on, seal_put}
use Rattle.plain_model.proofs.cutting.seal_numbers.Goals.{in-Seal+in_ok-push, in_default}
use Rattle.plain_model.proofs.cutting.seal_numbers.Goals as goal

pub loop-i-preserved : goal.loop-i-preserved
loop-i-preserved c =
    let xs = c.args.steps.now in
    let i = c.loop-i.i in
    let x = c.index-steps-i.result in
    elim c.match-steps-i.branch [
      | in-Seal+in_ok-push w ↦
          rw w.all-is (seal_put c.loop-i.all.items _ _ (seals_on xs (i + 1)) _ w.in-Seal.stream w.count_of.result _ w.in_ok-push.ensures.items w.count_of.ensures
          (one_seal xs i x w.in-Seal.stream c.loop-i-test.true c.index-steps-i.is w.in-Seal.is) c.loop-i.invariant)
      | in_default w ↦
          rw w.all-is (ap (λ z. c.loop-i.all.items ++ z) (sym (no_seal xs i x w.in_default.field-0 w.in_default.field-1 c.loop-i-test.true c.index-steps-i.is w.in_default.is)) ∙ c.loop-i.invariant)
    ]
