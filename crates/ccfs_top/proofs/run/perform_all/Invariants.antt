use Rattle.std.proofs.Common.{◌≡◌, ◌⊎◌, ◌≤◌, ◌++◌, length, true, false}
use Rattle.gate_journal.specs.Halves.{journal_of}
use Rattle.gate_journal.specs.Runs.{LeavesBy}
use Rattle.image_model.specs.Checks.{is_last}
use Rattle.ccfs_top.specs.Ends.{joined}
use Rattle.ccfs_top.specs.Runs.{image_by, reply_lines, further}
use Rattle.ccfs_top.specs.Outcomes.{Within, first_history}
use Rattle.ccfs_top.specs.Reached.{Reached}
use Rattle.ccfs_top.specs.Sessions.{Settled}
use Rattle.ccfs_top.proofs.run.perform_all.Given as goal

-- so many calls were performed and their reply lines written, and the volume carries the tree that is durable
abbrev pub invariant-loop-call : goal.invariant-loop-call
invariant-loop-call g l = let first = l.initial.session in let s = l.session in let v = l.session.volume in record {
  reached : Reached first.front.sizes first.front.opening l.calls l.call-index s.front.entries s.written;
  text : g.K.Sink.tells → g.K.Sink.held l.out ≡ g.K.Sink.held l.initial.out ++ joined (reply_lines s.front.entries);
  sizes : s.front.sizes ≡ first.front.sizes;
  opening : s.front.opening ≡ first.front.opening;
  handed : s.front.handed ≡ s.written;
  count : length s.front.entries ≡ l.call-index;
  limit : s.front.limit ≡ 1048576;
  first_number : s.first ≡ first.first;
  settled : Settled v.geometry v.volume.items s.metadata s.front s.first s.written;
  last : is_last (journal_of v.half).last (further s.first s.written) ≡ true;
  working : v.failed ≡ false;
  since : g.D.Disk.tells → LeavesBy g.D.Disk first.volume.disk v.disk
      (λ c. g.D.Disk.may_leave first.volume.disk c ⊎ Within (image_by first.first first.front) (first_history (image_by first.first first.front) l.calls l.call-index) 0 c);
  later : g.D.Disk.faults first.volume.disk ≤ g.D.Disk.faults v.disk;
  steady : g.D.Disk.faults v.disk ≡ g.D.Disk.faults first.volume.disk;
  sink_later : g.K.Sink.faults l.initial.out ≤ g.K.Sink.faults l.out;
  sink_steady : g.K.Sink.faults l.out ≡ g.K.Sink.faults l.initial.out;
}
