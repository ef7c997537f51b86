use Rattle.std.proofs.Common.{◌≡◌, ℕ, ◌<◌, reverse, take, vec_len, get_or, false}
use Rattle.disk_model.specs.Replay.{marked}
use Rattle.disk_model.proofs.image.loose_places.Given as goal

abbrev pub invariant-loop-i : goal.invariant-loop-i
invariant-loop-i l = record {
  size : vec_len l.loose ≡ vec_len l.history.bytes;
  places : (k : ℕ) → k < vec_len l.history.bytes → get_or l.loose.items k false ≡ marked l.synced (reverse (take l.i l.history.operations.items)) k;
}
