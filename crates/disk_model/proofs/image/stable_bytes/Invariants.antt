use Rattle.std.proofs.Common.{◌≡◌, reverse, take}
use Rattle.disk_model.specs.Replay.{replayed}
use Rattle.disk_model.proofs.image.stable_bytes.Given as goal

abbrev pub invariant-loop-i : goal.invariant-loop-i
invariant-loop-i l = l.stable.items ≡ replayed l.synced l.history.start.items (reverse (take l.i l.history.operations.items))
