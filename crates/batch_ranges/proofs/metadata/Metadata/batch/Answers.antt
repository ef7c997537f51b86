use Rattle.std.proofs.Common.{◌≡◌, ℕ, ◌≤◌, ◌++◌, List, length, arith, ap, sym, subst, ◌∙◌}
use Rattle.delta_log.proofs.Records.{all_recorded_length}
use Rattle.ccfs_base.specs.Places.{IsInside}
use Rattle.ccfs_base.specs.declared.records.Rec.{Rec}
use Rattle.ccfs_base.specs.Records.{acts_at, recorded, all_recorded, AreInside}
use Rattle.batch_ranges.specs.Ranges.{left_by, ranges_by}
use Rattle.batch_ranges.proofs.Batching.{ranges_batched, batched_size, batched_stand}
use Rattle.batch_ranges.proofs.metadata.Metadata.batch.Goals as goal

pub put_all-requires : goal.put_all-requires
put_all-requires c = subst (AreInside (length c.args.self.now)) (sym c.all.ensures) c.requires.inside

-- the metadata with the records have still room for the number
room : (c : goal.After-ranges-2-1) → 8 ≤ length c.put_all.new.self
room c =
    let put : c.put_all.new.self ≡ all_recorded c.args.self.now c.all.result.now = c.in_ok-put_all.ensures.metadata in
    omega (arith, c.requires.number, ap length put, all_recorded_length c.all.result.now c.args.self.now)

pub put-requires : goal.put-requires
put-requires c = subst (λ (r : Rec). IsInside (length c.put_all.new.self) (acts_at r)) (sym c.in_ok-rec.ensures) (room c)

-- what stands in the metadata then
left : (c : goal.Joined-rec-2) → c.put.new.self ≡ recorded (all_recorded c.args.self.now c.args.records.now) c.in_ok-rec.rec
left c =
    c.put.ensures.metadata
    ∙ ap (λ (z : List ℕ). recorded z c.in_ok-rec.rec) (c.in_ok-put_all.ensures.metadata ∙ ap (all_recorded c.args.self.now) c.all.ensures)

handed : (c : goal.Joined-rec-2) → c.put.new.ranges ≡ ranges_by c.args.self.now c.args.records.now c.args.number
handed c =
    let first : c.put_all.new.ranges ≡ left_by c.args.self.now c.args.records.now =
    c.in_ok-put_all.ensures.ranges ∙ (λ i. c.new-ranges.ensures i ++ left_by c.args.self.now (c.all.ensures i)) in
    c.in_ok-put.ensures.ranges
    ∙ ranges_batched c.args.self.now c.args.records.now c.args.number c.put_all.new.ranges c.in_ok-rec.rec c.put.new.self c.requires.number first c.in_ok-rec.ensures (left c)

pub returns-clause-ranges : goal.returns-clause-ranges
returns-clause-ranges c = handed c

pub returns-clause-size : goal.returns-clause-size
returns-clause-size c = batched_size (record { number = c.args.number; ranges = c.put.new.ranges }) c.args.self.now c.args.records.now c.args.number c.requires.inside (handed c)

pub returns-clause-stands : goal.returns-clause-stands
returns-clause-stands c = λ some size fits.
    batched_stand c.put.new.ranges c.args.self.now c.args.records.now c.args.number size c.requires.inside some c.requires.number fits (handed c)

pub returns-clause-left : goal.returns-clause-left
returns-clause-left c = left c ∙ ap (recorded (all_recorded c.args.self.now c.args.records.now)) c.in_ok-rec.ensures
