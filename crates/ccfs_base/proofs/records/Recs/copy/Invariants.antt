use Rattle.std.proofs.Common.{◌≡◌, take}
use Rattle.ccfs_base.proofs.records.Recs.copy.Given as goal

abbrev pub invariant-loop-rec : goal.invariant-loop-rec
invariant-loop-rec l = l.recs ≡ take l.rec-index l.rec-items
