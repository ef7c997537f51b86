use Rattle.std.proofs.Common.{◌≡◌, ◌++◌, take}
use Rattle.ccfs_base.specs.Records.{all_recorded}
use Rattle.batch_ranges.specs.Ranges.{left_by}
use Rattle.batch_ranges.proofs.metadata.Metadata.put_all.Given as goal

-- the records so far are put on the metadata, and what each left stands last
abbrev pub invariant-loop-rec : goal.invariant-loop-rec
invariant-loop-rec l = record {
  metadata : l.self ≡ all_recorded l.initial.self (take l.rec-index l.recs);
  ranges : l.ranges ≡ l.initial.ranges ++ left_by l.initial.self (take l.rec-index l.recs);
}
