use Rattle.std.proofs.Common.{ap, arith, refl}
use Rattle.std.specs.declared.result.Result.TheVariants.{Err}
use Rattle.fault_counts.specs.Counts.{Rose}
use Rattle.ccfs_top.specs.Runs.{fresh}
use Rattle.ccfs_top.proofs.Ending.{fault_decides}
use Rattle.ccfs_top.proofs.Closing.{wrote_stop, ends_made, ends_done, fault_status}
use Rattle.ccfs_top.proofs.top.mkfs.Goals as goal

pub returns-in-Ok-clause-new : goal.returns-in-Ok-clause-new
returns-in-Ok-clause-new g c = λ told _. c.in-Ok.ensures.new told

pub returns-in-Err-clause-wrote : goal.returns-in-Err-clause-wrote
returns-in-Err-clause-wrote g c = λ told.
    let geometry = c.args.geometry.now in
    let e = fresh geometry.blocks geometry.inodes in
    let stop = c.in-Err.stop in
    let k = g.K.Sink in
    let old = c.args.out.now in
    let mid = c.make_image.new.out in
    let new = c.ended_by.new.out in
    let later = c.in-Err.ensures.sink_later in
    let last_later = c.ended_by.ensures.later in
    wrote_stop e stop 0 c.ended_by.result.status (Rose (k.faults mid) (k.faults new)) (Rose (k.faults old) (k.faults new)) (k.held old) (k.held mid) (k.held new) (fault_decides e stop refl c.in-Err.ensures.fault)
    (c.in-Err.ensures.grew told) (omega arith) (λ r. omega (arith, r, later)) (λ is. let cause = c.in-Err.ensures.sink_cause (ap (λ z. Err z) is) in omega (arith, cause, last_later)) (c.ended_by.ensures.text told)

pub returns-in-Err-clause-statuses : goal.returns-in-Err-clause-statuses
returns-in-Err-clause-statuses g c = fault_status c.in-Err.stop c.ended_by.result.status c.ended_by.ensures.told c.in-Err.ensures.fault

pub returns-in-Err-clause-ends : goal.returns-in-Err-clause-ends
returns-in-Err-clause-ends g c =
    ends_made c.args.geometry.now.blocks c.args.geometry.now.inodes c.ended_by.result.status c.ended_by.result.batches (fault_status c.in-Err.stop c.ended_by.result.status c.ended_by.ensures.told c.in-Err.ensures.fault) c.ended_by.ensures.batches

pub returns-in-Ok-clause-ends : goal.returns-in-Ok-clause-ends
returns-in-Ok-clause-ends g c = ends_done (fresh c.args.geometry.now.blocks c.args.geometry.now.inodes) 0 refl refl
