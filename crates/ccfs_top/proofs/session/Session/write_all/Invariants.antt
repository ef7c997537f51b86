use Rattle.std.proofs.Common.{◌≡◌, ◌≤◌, ◌+◌, true, false}
use Rattle.gate_journal.specs.Halves.{journal_of}
use Rattle.gate_journal.specs.Runs.{LeavesBy}
use Rattle.image_model.specs.Checks.{is_last}
use Rattle.front_core.specs.Fronts.{seals_of}
use Rattle.ccfs_top.specs.Runs.{further}
use Rattle.ccfs_top.specs.JournalSpace.{HasTaken}
use Rattle.ccfs_top.specs.Sessions.{Settled, ShowsOneOf}
use Rattle.ccfs_top.proofs.Writing.{handed_to}
use Rattle.ccfs_top.proofs.session.Session.write_all.Given as goal

-- so many batches of those that waited were written
abbrev pub invariant-loop-batch : goal.invariant-loop-batch
invariant-loop-batch g l = let old = l.fn.self in let v = l.self.volume in record {
  front : l.self.front ≡ handed_to (seals_of old.front) old.front;
  first : l.self.first ≡ old.first;
  written : l.self.written ≡ old.written + l.batch-index;
  settled : Settled v.geometry v.volume.items l.self.metadata l.self.front l.self.first l.self.written;
  taken : HasTaken old.front old.written l.self.written old.volume.half v.half;
  last : is_last (journal_of v.half).last (further l.self.first l.self.written) ≡ true;
  working : v.failed ≡ false;
  geometry : v.geometry ≡ old.volume.geometry;
  moments : g.D.Disk.tells → LeavesBy g.D.Disk old.volume.disk v.disk (ShowsOneOf old.front old.first old.written (seals_of old.front));
  later : g.D.Disk.faults old.volume.disk ≤ g.D.Disk.faults v.disk;
  steady : g.D.Disk.faults v.disk ≡ g.D.Disk.faults old.volume.disk;
}
