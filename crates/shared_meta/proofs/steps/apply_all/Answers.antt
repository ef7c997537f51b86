use Rattle.std.proofs.Common.{ℕ, List, length, take, sym, ap, subst, ◌∙◌}
use Rattle.ccfs_base.specs.declared.records.Rec.{Rec}
use Rattle.ccfs_base.specs.Places.{IsInside}
use Rattle.ccfs_base.specs.Records.{acts_at, recorded, all_recorded}
use Rattle.shared_meta.proofs.EachCall.{inside_at, one_more_recorded}
use Rattle.shared_meta.proofs.steps.apply_all.Goals as goal

pub apply_rec-requires : goal.apply_rec-requires
apply_rec-requires c =
    subst (λ (n : ℕ). IsInside n (acts_at c.rec-item.result)) (sym c.loop-rec.auto.bytes)
    (subst (λ (r : Rec). IsInside (length c.args.bytes.now) (acts_at r)) (sym c.rec-item.is) (inside_at (length c.args.bytes.now) c.args.recs.now c.loop-rec.rec-index c.rec-item.result c.requires c.loop-rec-test.true))

pub loop-rec-preserved : goal.loop-rec-preserved
loop-rec-preserved c =
    c.apply_rec.ensures ∙ ap (λ (z : List ℕ). recorded z c.rec-item.result) c.loop-rec.invariant
    ∙ ap (recorded (all_recorded c.args.bytes.now (take c.loop-rec.rec-index c.args.recs.now))) c.rec-item.is
    ∙ one_more_recorded c.args.bytes.now c.args.recs.now c.loop-rec.rec-index c.rec-item.result c.loop-rec-test.true
