use Rattle.std.proofs.Common.{◌≡◌, ◌++◌, take}
use Rattle.shared_meta.specs.Area.{area, AreAsBefore}
use Rattle.front_core.specs.Logged.{calls_of}
use Rattle.front_core.proofs.logging.room_for_all.Given as goal

-- the room has the calls of the records before this one behind what it had
abbrev pub invariant-loop-rec : goal.invariant-loop-rec
invariant-loop-rec l = record {
  kept : AreAsBefore (area l.fn.meta) (area l.meta);
  room : l.meta.room ≡ l.fn.meta.room ++ calls_of l.stream (take l.rec-index l.recs);
}
