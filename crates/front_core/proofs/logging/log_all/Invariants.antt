use Rattle.std.proofs.Common.{◌≡◌, take, drop}
use Rattle.shared_meta.specs.Area.{area}
use Rattle.front_laws.specs.Logging.{MayLogAll}
use Rattle.front_core.specs.Logged.{calls_of}
use Rattle.front_core.proofs.SoFar.{AreLoggedSoFar}
use Rattle.front_core.proofs.logging.log_all.Given as goal

-- the records before this one are logged, and the room has the calls of the others
abbrev pub invariant-loop-rec : goal.invariant-loop-rec
invariant-loop-rec l = record {
  logged : AreLoggedSoFar (area l.fn.meta) l.stream (take l.rec-index l.recs) (area l.meta);
  room : l.meta.room ≡ calls_of l.stream (drop l.rec-index l.recs);
  may : MayLogAll (area l.meta) l.stream (drop l.rec-index l.recs);
}
