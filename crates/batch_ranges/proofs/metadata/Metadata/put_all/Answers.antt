use Rattle.std.proofs.Common.{◌≡◌, ◌∷◌, [], ◌++◌, ℕ, List, length, take, sym, ap, subst, ◌∙◌}
use Rattle.ccfs_base.specs.declared.records.Rec.{Rec}
use Rattle.ccfs_base.specs.Places.{IsInside}
use Rattle.ccfs_base.specs.Records.{acts_at, recorded, all_recorded}
use Rattle.delta_log.proofs.Records.{all_recorded_length}
use Rattle.gate_journal.specs.declared.batches.Range.{Range}
use Rattle.batch_ranges.specs.Ranges.{range_at, left_by}
use Rattle.batch_ranges.proofs.Puts.{inside_at, one_more_recorded, one_more_behind}
use Rattle.batch_ranges.proofs.metadata.Metadata.put_all.Goals as goal

pub put-requires : goal.put-requires
put-requires c =
    let log = c.args.recs.now in
    let old = c.args.self.now in
    subst (λ (n : ℕ). IsInside n (acts_at c.rec-item.result)) (sym (ap length c.loop-rec.invariant.metadata ∙ all_recorded_length (take c.loop-rec.rec-index log) old))
    (subst (λ (r : Rec). IsInside (length old) (acts_at r)) (sym c.rec-item.is) (inside_at (length old) log c.loop-rec.rec-index c.rec-item.result c.requires c.loop-rec-test.true))

pub loop-rec-preserved : goal.loop-rec-preserved
loop-rec-preserved c =
    let log = c.args.recs.now in
    let old = c.args.self.now in
    let i = c.loop-rec.rec-index in
    let r = c.rec-item.result in
    let one : c.put.new.self ≡ recorded (all_recorded old (take i log)) r = c.put.ensures.metadata ∙ ap (λ (z : List ℕ). recorded z r) c.loop-rec.invariant.metadata in
    record {
      metadata = one ∙ ap (recorded (all_recorded old (take i log))) c.rec-item.is ∙ one_more_recorded old log i r c.loop-rec-test.true;
      ranges =
          c.in_ok-put.ensures.ranges
          ∙ ap (λ (z : List Range). z ++ range_at c.put.new.self r ∷ []) c.loop-rec.invariant.ranges
          ∙ ap (λ (z : List ℕ). (c.args.ranges.now ++ left_by old (take i log)) ++ range_at z r ∷ []) one
          ∙ ap (λ (z : Rec). (c.args.ranges.now ++ left_by old (take i log)) ++ range_at (recorded (all_recorded old (take i log)) z) z ∷ []) c.rec-item.is
          ∙ one_more_behind old log i r c.args.ranges.now c.loop-rec-test.true;
    }
