use Rattle.std.proofs.Common.{ℕ, ◌≡◌, ◌<◌, ◌≤◌, ◌+◌, ◌∙◌, ap, take, arith}
use Rattle.stream_cuts.specs.Streams.{no_counts, entered, counts_after}
use Rattle.stream_cuts.specs.Cuts.{cut_of}
use Rattle.plain_model.specs.Steps.{steps_of}
use Rattle.plain_model.proofs.OneStep.{kept_on, one_kept, one_lost, none_kept, one_applied, none_applied, first_applies}
use Rattle.plain_model.proofs.cutting.tree_of_cut.Goals.{in-Enter+then-count_of-number_in+in_ok-apply, in-Enter+else-count_of-number_in, in_default}
use Rattle.plain_model.proofs.cutting.tree_of_cut.Goals as goal

pub apply-requires : goal.apply-requires
apply-requires c =
    let xs = c.args.steps.now in
    let i = c.loop-i.i in
    let cut : ℕ → ℕ = cut_of no_counts c.truncate.new.self.items in
    let seen : ℕ = counts_after no_counts (entered (steps_of (take i xs))) c.in-Enter.stream in
    let number : c.number_in.result ≡ cut c.in-Enter.stream = c.number_in.ensures ∙ ap (λ l. cut_of no_counts l c.in-Enter.stream) c.deref.ensures.value in
    let below : seen < cut c.in-Enter.stream = omega (arith, number, c.count_of.ensures, c.if-count_of-number_in.true) in
    first_applies c.loop-i.tree (kept_on cut xs i) (kept_on cut xs (i + 1)) c.in-Enter.stream c.in-Enter.update
    (one_kept cut xs i c.index-steps-i.result c.in-Enter.stream c.in-Enter.update c.loop-i-test.true c.index-steps-i.is c.in-Enter.is below) c.loop-i.invariant.fit

pub loop-i-preserved : goal.loop-i-preserved
loop-i-preserved c =
    let xs = c.args.steps.now in
    let i = c.loop-i.i in
    let x = c.index-steps-i.result in
    let cut : ℕ → ℕ = cut_of no_counts c.truncate.new.self.items in
    let inv = c.loop-i.invariant in
    elim c.match-steps-i.branch [
      | in-Enter+then-count_of-number_in+in_ok-apply w ↦
          let s = w.in-Enter.stream in
          let seen : ℕ = counts_after no_counts (entered (steps_of (take i xs))) s in
          let number : w.number_in.result ≡ cut s = w.number_in.ensures ∙ ap (λ l. cut_of no_counts l s) w.deref.ensures.value in
          let below : seen < cut s = omega (arith, number, w.count_of.ensures, w.if-count_of-number_in.true) in
          let on = one_applied c.loop-i.tree c.match-steps-i.tree _ (kept_on cut xs i) (kept_on cut xs (i + 1)) (s, w.in-Enter.update)
          (one_kept cut xs i x s w.in-Enter.update c.loop-i-test.true c.index-steps-i.is w.in-Enter.is below) (w.tree-is ∙ w.in_ok-apply.ensures.ok) inv.same inv.fit in
          record { same = on.0; fit = on.1 }
      | in-Enter+else-count_of-number_in w ↦
          let s = w.in-Enter.stream in
          let seen : ℕ = counts_after no_counts (entered (steps_of (take i xs))) s in
          let number : w.number_in.result ≡ cut s = w.number_in.ensures ∙ ap (λ l. cut_of no_counts l s) w.deref.ensures.value in
          let above : cut s ≤ seen = omega (arith, number, w.count_of.ensures, w.if-count_of-number_in.false) in
          let on = none_applied c.loop-i.tree c.match-steps-i.tree _ (kept_on cut xs i) (kept_on cut xs (i + 1))
          (one_lost cut xs i x s w.in-Enter.update c.loop-i-test.true c.index-steps-i.is w.in-Enter.is above) w.tree-is inv.same inv.fit in
          record { same = on.0; fit = on.1 }
      | in_default w ↦
          let on = none_applied c.loop-i.tree c.match-steps-i.tree _ (kept_on cut xs i) (kept_on cut xs (i + 1))
          (none_kept cut xs i x w.in_default.field-0 c.loop-i-test.true c.index-steps-i.is w.in_default.is) w.tree-is inv.same inv.fit in
          record { same = on.0; fit = on.1 }
    ]
