use Rattle.std.proofs.Common.{inr, ap, refl, arith}
use Rattle.std.specs.declared.result.Result.TheVariants.{Err}
use Rattle.fault_counts.specs.Counts.{Rose}
use Rattle.ccfs_top.specs.Images.{Good}
use Rattle.ccfs_top.specs.Runs.{over, printed}
use Rattle.ccfs_top.proofs.Closing.{late_status, plain_printed, ends_with, ends_done, wrote_stop, wrote_done}
use Rattle.ccfs_top.proofs.top.tree.Goals as goal

pub returns-in-Ok-clause-printed : goal.returns-in-Ok-clause-printed
returns-in-Ok-clause-printed g c = λ told settled.
    let o = c.in-Ok.ensures.done told settled in
    let k = g.K.Sink in
    let old = c.args.out.now in
    let new = c.print_tree.new.out in
    let e = over printed (Good o.0) in
    record {
      seen = Good o.0;
      finds = o.1;
      ends = ends_done e c.in-Ok.batches refl o.2;
      wrote = λ sink_told. wrote_done e (Rose (k.faults old) (k.faults new)) (k.held old) (k.held new) refl (o.3 sink_told);
    }

pub returns-in-Err-clause-printed : goal.returns-in-Err-clause-printed
returns-in-Err-clause-printed g c = λ told settled.
    let stop = c.in-Err.stop in
    let k = g.K.Sink in
    let old = c.args.out.now in
    let mid = c.print_tree.new.out in
    let new = c.ended_by.new.out in
    let later = c.in-Err.ensures.sink_later in
    let last_later = c.ended_by.ensures.later in
    let o = c.in-Err.ensures.halts told settled in
    let e = over printed o.0 in
    let code = c.ended_by.result.status in
    record {
      seen = o.0;
      finds = o.1;
      ends = ends_with e stop 0 code c.ended_by.result.batches (plain_printed o.0) o.2 c.ended_by.ensures.told (omega arith) c.ended_by.ensures.batches;
      wrote = λ sink_told. wrote_stop e stop 0 code (Rose (k.faults mid) (k.faults new)) (Rose (k.faults old) (k.faults new)) (k.held old) (k.held mid) (k.held new) o.2 (o.3 sink_told) (omega arith) (λ r. omega (arith, r, later))
          (λ is. let cause = c.in-Err.ensures.sink_cause (ap (λ z. Err z) is) in omega (arith, cause, last_later)) (c.ended_by.ensures.text sink_told);
    }

pub returns-in-Err-clause-statuses : goal.returns-in-Err-clause-statuses
returns-in-Err-clause-statuses g c = inr (late_status c.in-Err.stop c.ended_by.result.status c.ended_by.ensures.told c.in-Err.ensures.late)
