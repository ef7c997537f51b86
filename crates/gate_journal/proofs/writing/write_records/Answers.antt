use Rattle.std.proofs.Common.{◌≤◌, ◌++◌, ap, ◌∙◌, length, arith}
use Rattle.gate_journal.specs.Batches.{records_bytes, record_bytes}
use Rattle.gate_journal.proofs.Sizes.{range_within, records_more}
use Rattle.gate_journal.proofs.writing.write_records.Goals as goal

pub put_record-requires : goal.put_record-requires
put_record-requires c =
    let within : length c.range-item.result.bytes ≤ length (records_bytes c.args.ranges.now) = range_within c.args.ranges.now c.loop-range.range-index c.range-item.result c.loop-range-test.true c.range-item.is in
    omega arith

pub loop-range-preserved : goal.loop-range-preserved
loop-range-preserved c =
    c.in_ok-put_record.ensures ∙ ap (λ z. z ++ record_bytes c.range-item.result) c.loop-range.invariant
    ∙ records_more c.args.ranges.now c.loop-range.range-index c.range-item.result c.loop-range-test.true c.range-item.is
