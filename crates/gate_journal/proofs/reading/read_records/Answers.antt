use Rattle.std.proofs.Common.{◌≡◌, suc, ◌+◌, ◌-◌, [], ◌∷◌, ◌++◌, ap, ◌∙◌, arith, append_assoc}
use Rattle.gate_journal.specs.declared.batches.Range.{Range}
use Rattle.gate_journal.specs.Batches.{ranges_at, batch_of}
use Rattle.gate_journal.proofs.ReadSteps.{ranges_further, ranges_end}
use Rattle.gate_journal.proofs.reading.read_records.Goals as goal

pub returns-in_default : goal.returns-in_default
returns-in_default c =
    let e : c.args.records - c.loop.counter ≡ suc (c.args.records - (c.loop.counter + 1)) = omega arith in
    λ number. ap (batch_of number) (ranges_end c.args.size _ _ (ranges_at c.args.size c.args.records c.args.bytes.now) c.loop.invariant.0 c.loop.rest.now c.loop.invariant.1 e c.in_default.ensures)

pub loop-preserved : goal.loop-preserved
loop-preserved c =
    let e : c.args.records - c.loop.counter ≡ suc (c.args.records - (c.loop.counter + 1)) = omega arith in
    let r : Range = record { off = c.in-Some.off; bytes = c.in-Some.body.now } in
    let made : record { off = c.in-Some.off; bytes = c.in_ok-of.field-0 } ≡ r = ap (λ z. record { off = c.in-Some.off; bytes = z }) c.in_ok-of.ensures in (
      c.loop.invariant.0 ++ r ∷ [],
      ranges_further c.args.size _ _ (ranges_at c.args.size c.args.records c.args.bytes.now) c.loop.invariant.0 c.loop.rest.now c.in-Some.behind.now r c.loop.invariant.1 e c.in-Some.ensures,
      c.in_ok-push.ensures.ok ∙ ap (λ z. c.loop.ranges ++ z ∷ []) made ∙ ap (λ z. z ++ r ∷ []) c.loop.invariant.2 ∙ append_assoc c.args.ranges.now c.loop.invariant.0 (r ∷ []),
    )
