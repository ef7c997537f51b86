use Rattle.std.proofs.Common.{rules, List, get_or, ap, ◌∙◌}
use Rattle.gate_journal.specs.declared.batches.Range.{Range}
use Rattle.gate_journal.specs.Batches.{Stands}
use Rattle.gate_journal.proofs.Sizes.{all_more, all_taken}
use Rattle.gate_journal.proofs.batches.Batch.stands_in.Goals as goal

pub loop-range-preserved : goal.loop-range-preserved
loop-range-preserved c = record {
  each = all_more (Stands c.args.volume_bytes) c.args.self.now.ranges c.loop-range.range-index c.range-item.result (search rules) (c.range-item.is ∙ ap (λ (rs : List Range). get_or rs c.loop-range.range-index c.range-item.result) c.all-range-items.ensures) c.loop-range.invariant.each (search rules);
}

pub returns-clause-stands : goal.returns-clause-stands
returns-clause-stands c = λ is. all_taken (Stands c.args.volume_bytes) c.args.self.now.ranges c.loop-range.range-index (search rules) c.loop-range.invariant.each
