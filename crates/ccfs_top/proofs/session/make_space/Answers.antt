use Rattle.std.proofs.Common.{length}
use Rattle.gate_journal.specs.Batches.{batch_bytes}
use Rattle.gate_journal.specs.Halves.{size_of, journal_of}
use Rattle.atomic_volume.specs.Held.{contents_by}
use Rattle.ccfs_top.proofs.JournalSpaces.{stays_for, emptied_for, is_full}
use Rattle.ccfs_top.proofs.Leaving.{stays_moved}
use Rattle.ccfs_top.proofs.session.make_space.Goals as goal

pub returns-then-accepts-clause-journal : goal.returns-then-accepts-clause-journal
returns-then-accepts-clause-journal g c =
    let v = c.args.volume.now in
    stays_for (journal_of v.half) (length (batch_bytes c.args.batch.now)) (c.accepts.ensures.fits c.if-accepts.true)

pub returns-then-accepts-clause-any_moment : goal.returns-then-accepts-clause-any_moment
returns-then-accepts-clause-any_moment g c = λ told.
    let v = c.args.volume.now in
    stays_moved g.D.Disk v.disk (contents_by v.geometry v.half v.volume.items) (g.met.D.Disk.earlier told v.disk) (g.met.D.Disk.only_now told v.disk)

pub returns-in-Ok-clause-journal : goal.returns-in-Ok-clause-journal
returns-in-Ok-clause-journal g c =
    let v = c.args.volume.now in
    emptied_for (journal_of v.half) (journal_of c.checkpoint.new.self.half) (length (batch_bytes c.args.batch.now))
    (is_full (size_of v.half) (journal_of v.half) c.args.batch.now c.accepts.result c.accepts.ensures.other c.requires.follows c.if-accepts.false) c.in-Ok.ensures.journal
