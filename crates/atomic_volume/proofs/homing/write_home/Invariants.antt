use Rattle.std.proofs.Common.{◌≡◌, ◌≤◌, false, take}
use Rattle.fault_counts.specs.Counts.{RisesBy}
use Rattle.gate_journal.specs.Runs.{LeavesBy}
use Rattle.gate_journal.specs.Batches.{range_bytes}
use Rattle.atomic_volume.specs.Homing.{put_home, Scattered, Comes}
use Rattle.atomic_volume.proofs.homing.write_home.Given as goal

-- so many ranges are home
abbrev pub invariant-loop-range : goal.invariant-loop-range
invariant-loop-range g l = let d = g.D.Disk in let old = l.initial.disk in record {
  known : d.known l.disk ≡ d.known old;
  later : d.faults old ≤ d.faults l.disk;
  steady : d.faults l.disk ≡ d.faults old;
  count : RisesBy (range_bytes (take l.range-index l.ranges)) (d.written old) (d.written l.disk);
  moments : d.tells → LeavesBy d old l.disk (Comes (Scattered l.ranges) (d.may_leave old));
  put : d.tells → d.in_doubt old ≡ false → d.seen l.disk ≡ put_home (d.seen old) (take l.range-index l.ranges);
  doubt : d.tells → d.in_doubt old ≡ false → d.in_doubt l.disk ≡ false;
}
