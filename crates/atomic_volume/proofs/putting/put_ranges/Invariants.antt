use Rattle.std.proofs.Common.{◌≡◌, length, take}
use Rattle.atomic_volume.specs.Opening.{put_on}
use Rattle.atomic_volume.proofs.putting.put_ranges.Given as goal

abbrev pub invariant-loop-range : goal.invariant-loop-range
invariant-loop-range l = record {
  put : l.volume ≡ put_on l.initial.volume (take l.range-index l.ranges);
  size : length l.volume ≡ length l.initial.volume;
}
