use Rattle.std.proofs.Common.{rules, ◌≡◌, ◌+◌, ℕ, min, List, length, get_or, take, ap, sym, ◌∙◌}
use Rattle.std.proofs.lemmas.List.{take_all}
use Rattle.gate_journal.specs.declared.batches.Range.{Range}
use Rattle.gate_journal.specs.Batches.{records_bytes}
use Rattle.gate_journal.proofs.Bounds.{batch_long}
use Rattle.gate_journal.proofs.Sizes.{total_more}
use Rattle.gate_journal.proofs.batches.Batch.encoded_len.Goals as goal

pub loop-range-preserved : goal.loop-range-preserved
loop-range-preserved c = record {
  total = c.saturating_add-total-in-loop-range.ensures
      ∙ ap (λ (n : ℕ). min (n + c.len.result) 18446744073709551615) c.saturating_add-total.ensures
      ∙ ap (λ (n : ℕ). min (min (c.loop-range.total + 12) 18446744073709551615 + n) 18446744073709551615) c.len.ensures
      ∙ total_more c.args.self.now.ranges c.loop-range.range-index c.range-item.result c.loop-range.total (search rules) (c.range-item.is ∙ ap (λ (rs : List Range). get_or rs c.loop-range.range-index c.range-item.result) c.all-range-items.ensures) c.loop-range.invariant.total;
}

pub returns : goal.returns
returns c =
    let all : take c.loop-range.range-index c.args.self.now.ranges ≡ c.args.self.now.ranges = take_all c.loop-range.range-index c.args.self.now.ranges (search rules) in
    c.loop-range.invariant.total
    ∙ ap (λ (rs : List Range). min (16 + length (records_bytes rs)) 18446744073709551615) all
    ∙ ap (λ (n : ℕ). min n 18446744073709551615) (sym (batch_long c.args.self.now))
