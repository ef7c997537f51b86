use Rattle.std.proofs.Common.{sym, subst}
use Rattle.ccfs_top.specs.declared.stop.Stop.{Stop}
use Rattle.ccfs_top.specs.Stops.{IsFaultStop}
use Rattle.ccfs_top.proofs.Ending.{fault_late, open_late, write_fault}
use Rattle.ccfs_top.proofs.Viewing.{refused_by_fault}
use Rattle.ccfs_top.proofs.finish.write_shown.Goals as goal

pub returns-in-Err-clause-fault : goal.returns-in-Err-clause-fault
returns-in-Err-clause-fault g c = λ told settled number p shows.
    subst (λ (z : Stop). IsFaultStop z) (sym c.stop_of_open.ensures)
    (refused_by_fault (g.D.Disk.seen c.args.disk.now) c.in-Err.fault (number, p) shows (c.in-Err.ensures.says told settled))

pub returns-in-Err-clause-late : goal.returns-in-Err-clause-late
returns-in-Err-clause-late g c = open_late c.stop_of_open.result c.in-Err.fault c.stop_of_open.ensures

pub returns-clause-late : goal.returns-clause-late
returns-clause-late g c = fault_late c.in-Err-write_tree.stop (write_fault c.in-Err-write_tree.stop c.in-Err-write_tree.ensures.kinds)
