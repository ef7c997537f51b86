use Rattle.std.proofs.Common.{ap, sym, subst}
use Rattle.std.proofs.lemmas.Result.{IfOk-weaker, IfErr-weaker}
use Rattle.std.specs.declared.result.Result.TheVariants.{Err}
use Rattle.gate_journal.proofs.Quiets.{quiet_start}
use Rattle.ccfs_top.specs.Images.{Unread}
use Rattle.ccfs_top.specs.Runs.{IsReady, expected}
use Rattle.ccfs_top.specs.Stops.{IsLate}
use Rattle.ccfs_top.proofs.Closing.{script_decides}
use Rattle.ccfs_top.proofs.Statuses.{of_script}
use Rattle.ccfs_top.proofs.Shelling.{refused_script, halts_script, halts_ready}
use Rattle.ccfs_top.proofs.top.run_script.Goals as goal

pub returns-in-Ok-clause-done : goal.returns-in-Ok-clause-done
returns-in-Ok-clause-done g c = λ told disk_told.
    let ready = subst (IsReady (g.S.Source.left c.args.script.now)) (sym c.deref.ensures.value) (c.in-Ok.ensures.ok told) in
    IfOk-weaker c.run_disk.result _ _ (λ done was. (c.deref.result.now, ready, was)) (c.run_disk.ensures.done disk_told)

pub returns-in-Ok-clause-halts : goal.returns-in-Ok-clause-halts
returns-in-Ok-clause-halts g c = λ told disk_told.
    let script = g.S.Source.left c.args.script.now in
    let ready = subst (IsReady script) (sym c.deref.ensures.value) (c.in-Ok.ensures.ok told) in
    IfErr-weaker c.run_disk.result _ _
    (λ refused was. halts_ready g.D.Disk c.args.disk refused.kept script c.deref.result.now refused.fault g.K.Sink.tells (g.K.Sink.held c.args.out.now) (g.K.Sink.held c.run_disk.new.out) ready was)
    (c.run_disk.ensures.halts disk_told)

pub returns-in-Ok-clause-refused : goal.returns-in-Ok-clause-refused
returns-in-Ok-clause-refused g c = λ told. IfErr-weaker c.run_disk.result _ _ (λ refused late not. absurd (not late)) c.run_disk.ensures.late

pub returns-in-Ok-clause-no_usage : goal.returns-in-Ok-clause-no_usage
returns-in-Ok-clause-no_usage g c = IfErr-weaker c.run_disk.result _ _ (λ refused late is. subst IsLate is late) c.run_disk.ensures.late

pub returns-in-Ok-clause-source : goal.returns-in-Ok-clause-source
returns-in-Ok-clause-source g c = IfErr-weaker c.run_disk.result _ _ (λ refused late is. absurd (subst IsLate is late)) c.run_disk.ensures.late

pub returns-in-Ok-clause-untouched : goal.returns-in-Ok-clause-untouched
returns-in-Ok-clause-untouched g c = IfErr-weaker c.run_disk.result _ _ (λ refused late not. absurd (not late)) c.run_disk.ensures.late

pub returns-in-Ok-clause-unready : goal.returns-in-Ok-clause-unready
returns-in-Ok-clause-unready g c = λ told unready. absurd (unready c.deref.result.now (subst (IsReady (g.S.Source.left c.args.script.now)) (sym c.deref.ensures.value) (c.in-Ok.ensures.ok told)))

pub returns-in-Ok-clause-unready_untouched : goal.returns-in-Ok-clause-unready_untouched
returns-in-Ok-clause-unready_untouched g c = λ told unready. absurd (unready c.deref.result.now (subst (IsReady (g.S.Source.left c.args.script.now)) (sym c.deref.ensures.value) (c.in-Ok.ensures.ok told)))

pub returns-in-Ok-clause-unready_cause : goal.returns-in-Ok-clause-unready_cause
returns-in-Ok-clause-unready_cause g c = λ told unready. absurd (unready c.deref.result.now (subst (IsReady (g.S.Source.left c.args.script.now)) (sym c.deref.ensures.value) (c.in-Ok.ensures.ok told)))

-- ---- a script that is refused

pub returns-in-Err-clause-refused : goal.returns-in-Err-clause-refused
returns-in-Err-clause-refused g c = λ told not.
    let s = c.stop_of_script.result in let text = g.S.Source.left c.args.script.now in
    script_decides (expected text Unread) s (refused_script text s c.stop_of_script.ensures.others
    (λ is. c.in-Err.ensures.long told (ap (λ z. Err z) (c.stop_of_script.ensures.long.1 is)))
    (λ line is. c.in-Err.ensures.bad_line told line (ap (λ z. Err z) ((c.stop_of_script.ensures.bad_line line).1 is)))
    (λ line is. c.in-Err.ensures.not_built told line (ap (λ z. Err z) ((c.stop_of_script.ensures.not_built line).1 is))))

pub returns-in-Err-clause-halts : goal.returns-in-Err-clause-halts
returns-in-Err-clause-halts g c = λ told disk_told.
    let d = g.D.Disk in let s = c.stop_of_script.result in let text = g.S.Source.left c.args.script.now in
    halts_script d c.args.disk text s g.K.Sink.tells (g.K.Sink.held c.args.out.now) (g.met.D.Disk.may_leave_seen disk_told c.args.disk)
    (quiet_start d c.args.disk (g.met.D.Disk.earlier disk_told c.args.disk) (g.met.D.Disk.only_now disk_told c.args.disk))
    (refused_script text s c.stop_of_script.ensures.others
    (λ is. c.in-Err.ensures.long told (ap (λ z. Err z) (c.stop_of_script.ensures.long.1 is)))
    (λ line is. c.in-Err.ensures.bad_line told line (ap (λ z. Err z) ((c.stop_of_script.ensures.bad_line line).1 is)))
    (λ line is. c.in-Err.ensures.not_built told line (ap (λ z. Err z) ((c.stop_of_script.ensures.not_built line).1 is))))

pub returns-in-Err-clause-unready_cause : goal.returns-in-Err-clause-unready_cause
returns-in-Err-clause-unready_cause g c = λ told unready. of_script c.stop_of_script.result c.stop_of_script.ensures.others
