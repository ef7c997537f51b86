use Rattle.std.proofs.Common.{◌≡◌, take}
use Rattle.ccfs_base.specs.Records.{all_recorded}
use Rattle.shared_meta.proofs.steps.apply_all.Given as goal

abbrev pub invariant-loop-rec : goal.invariant-loop-rec
invariant-loop-rec l = l.bytes ≡ all_recorded l.initial.bytes (take l.rec-index l.recs)
