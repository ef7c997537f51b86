use Rattle.std.proofs.Common.{arith, ◌∙◌}
use Rattle.fault_counts.specs.Counts.{Rose}
use Rattle.ccfs_top.specs.Images.{Unread}
use Rattle.ccfs_top.specs.Runs.{expected}
use Rattle.ccfs_top.proofs.Closing.{run_status, refusal_status, not_refused, early_stop}
use Rattle.ccfs_top.proofs.Statuses.{unready_status}
use Rattle.ccfs_top.proofs.Shelling.{ran_whole, ran_stopped}
use Rattle.ccfs_top.proofs.top.run.Goals as goal

pub returns-in-Ok-clause-ran : goal.returns-in-Ok-clause-ran
returns-in-Ok-clause-ran g c = λ told disk_told.
    let done = c.in-Ok.field-0 in
    let k = g.K.Sink in
    let old = c.args.out.now in
    let new = c.run_script.new.out in
    let o = c.in-Ok.ensures.done told disk_told in
    ran_whole g.D.Disk c.args.disk done.disk (g.S.Source.left c.args.script.now) o.0 done.batches k.tells (Rose (k.faults old) (k.faults new)) (k.held old) (k.held new) o.1 o.2

pub returns-in-Err-clause-ran : goal.returns-in-Err-clause-ran
returns-in-Err-clause-ran g c = λ told disk_told.
    let refused = c.in-Err.field-0 in
    let k = g.K.Sink in
    let old = c.args.out.now in
    let mid = c.run_script.new.out in
    let new = c.ended_by.new.out in
    let later = c.in-Err.ensures.sink_later in
    let last_later = c.ended_by.ensures.later in
    let o = c.in-Err.ensures.halts told disk_told in
    ran_stopped g.D.Disk c.args.disk refused.kept c.ended_by.result.disk (g.S.Source.left c.args.script.now) refused.fault c.ended_by.result.status c.ended_by.result.batches k.tells (Rose (k.faults mid) (k.faults new)) (Rose (k.faults old) (k.faults new))
    (k.held old) (k.held mid) (k.held new) o c.ended_by.ensures.disk c.ended_by.ensures.batches c.ended_by.ensures.told (λ sink_told. c.ended_by.ensures.text sink_told) (λ r. omega (arith, r, later))
    (λ is. let cause = c.in-Err.ensures.sink_cause is in omega (arith, cause, last_later))

pub returns-in-Ok-clause-statuses : goal.returns-in-Ok-clause-statuses
returns-in-Ok-clause-statuses g c = (omega arith, λ two. omega (arith, two))

pub returns-in-Ok-clause-refused : goal.returns-in-Ok-clause-refused
returns-in-Ok-clause-refused g c = λ told refusal. absurd (not_refused refusal)

pub returns-in-Ok-clause-untouched : goal.returns-in-Ok-clause-untouched
returns-in-Ok-clause-untouched g c = λ early. (let least = early.0 in absurd (omega (arith, least)))

pub returns-in-Ok-clause-unready_untouched : goal.returns-in-Ok-clause-unready_untouched
returns-in-Ok-clause-unready_untouched g c = λ told unready.
    let failed = c.in-Ok.ensures.unready told unready in
    absurd (cc failed)

pub returns-in-Err-clause-statuses : goal.returns-in-Err-clause-statuses
returns-in-Err-clause-statuses g c = run_status c.in-Err.field-0.fault c.ended_by.result.status c.ended_by.ensures.told c.in-Err.ensures.no_usage

pub returns-in-Err-clause-refused : goal.returns-in-Err-clause-refused
returns-in-Err-clause-refused g c = λ told refusal.
    refusal_status (expected (g.S.Source.left c.args.script.now) Unread) c.in-Err.field-0.fault c.ended_by.result.status c.ended_by.ensures.told refusal (c.in-Err.ensures.refused told)

pub returns-in-Err-clause-untouched : goal.returns-in-Err-clause-untouched
returns-in-Err-clause-untouched g c = λ early.
    c.ended_by.ensures.disk ∙ c.in-Err.ensures.untouched (early_stop c.in-Err.field-0.fault c.ended_by.result.status c.ended_by.ensures.told early.1)

pub returns-in-Err-clause-unready_untouched : goal.returns-in-Err-clause-unready_untouched
returns-in-Err-clause-unready_untouched g c = λ told unready. c.ended_by.ensures.disk ∙ c.in-Err.ensures.unready_untouched told unready

pub returns-in-Ok-clause-unready : goal.returns-in-Ok-clause-unready
returns-in-Ok-clause-unready g c = λ told unready.
    let failed = c.in-Ok.ensures.unready told unready in
    absurd (cc failed)

pub returns-in-Err-clause-unready : goal.returns-in-Err-clause-unready
returns-in-Err-clause-unready g c = λ told unready.
    unready_status (expected (g.S.Source.left c.args.script.now) Unread) c.in-Err.field-0.fault c.ended_by.result.status c.ended_by.ensures.told (c.in-Err.ensures.unready_cause told unready)
    (c.in-Err.ensures.refused told)
