use Rattle.std.proofs.Common.{◌≡◌, ◌++◌, ◌∙◌, length, length-append, ap, append_assoc, arith, sym}
use Rattle.script_text.proofs.Runs.{digits_before-run}
use Rattle.script_text.proofs.spelling.split_digits.Goals as goal

pub loop-run-preserved : goal.loop-run-preserved
loop-run-preserved c =
    let i = c.loop-run.invariant in
    let run = c.split_run.result.0.now in
    let after = c.split_run.result.1.now in
    let e = c.split_run.ensures in
    let a = append_assoc i.0 run after in
    let w : c.args.bytes.now ≡ (i.0 ++ run) ++ after = i.1 ∙ ap (λ x. i.0 ++ x) e.whole ∙ sym a in
    let p = digits_before-run i.0 c.loop-run.rest.now run _ _ _ i.2 e.run e.same (omega arith) in
    (i.0 ++ run, w, p, omega (arith, i.3, length-append run after, ap length e.whole))
