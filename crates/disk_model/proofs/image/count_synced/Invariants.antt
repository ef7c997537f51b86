use Rattle.std.proofs.Common.{◌≡◌, reverse, take}
use Rattle.disk_model.specs.Replay.{synced_of}
use Rattle.disk_model.proofs.image.count_synced.Given as goal

abbrev pub invariant-loop-i : goal.invariant-loop-i
invariant-loop-i l = l.synced ≡ synced_of (reverse (take l.i l.operations))
