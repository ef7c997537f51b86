use Rattle.std.proofs.Common.{sym, subst, arith, ◌∙◌}
use Rattle.std.proofs.lemmas.Result.{IfOk-weaker, IfErr-weaker}
use Rattle.atomic_volume.specs.Held.{contents_by}
use Rattle.ccfs_top.specs.declared.stop.Stop.{Stop}
use Rattle.ccfs_top.specs.Images.{Image}
use Rattle.ccfs_top.specs.Outcomes.{HaltsOn}
use Rattle.ccfs_top.specs.Runs.{image_by, ran, over}
use Rattle.ccfs_top.proofs.Ending.{open_late}
use Rattle.ccfs_top.proofs.Finishing.{halts_shut, done_behind, halts_behind}
use Rattle.ccfs_top.proofs.finish.run_disk.Goals as goal

pub returns-in-Err-clause-halts : goal.returns-in-Err-clause-halts
returns-in-Err-clause-halts g c = λ told.
    let d = g.D.Disk in
    let refused = c.in-Err.refused in
    let calls = c.args.calls.now in
    let text = g.K.Sink.held c.args.out.now in
    subst (λ (z : Stop). HaltsOn d c.args.disk refused.kept calls (over (λ (i : Image). ran i calls)) z g.K.Sink.tells text text) (sym c.stop_of_open.ensures)
    (halts_shut d c.args.disk refused.kept calls refused.fault g.K.Sink.tells text (c.in-Err.ensures.shut told))

pub returns-clause-done : goal.returns-clause-done
returns-clause-done g c = λ told.
    let s = c.in-Ok.session in let e = c.in-Ok.ensures in let o = e.opened told in
    IfOk-weaker c.run_session.result _ _
    (λ done is. done_behind g.D.Disk c.args.disk s.volume.disk done.disk c.args.calls.now (image_by s.first s.front) g.K.Sink.tells (g.K.Sink.held c.args.out.now) (g.K.Sink.held c.run_session.new.out)
    (contents_by s.volume.geometry s.volume.half s.volume.volume.items) e.small (e.way told) (e.each told) o.0 o.1 o.2 done.batches is)
    (c.run_session.ensures.done told)

pub returns-clause-halts : goal.returns-clause-halts
returns-clause-halts g c = λ told.
    let s = c.in-Ok.session in let e = c.in-Ok.ensures in let o = e.opened told in
    IfErr-weaker c.run_session.result _ _
    (λ refused is. halts_behind g.D.Disk c.args.disk s.volume.disk refused.kept c.args.calls.now (image_by s.first s.front) g.K.Sink.tells (g.K.Sink.held c.args.out.now) (g.K.Sink.held c.run_session.new.out)
    (contents_by s.volume.geometry s.volume.half s.volume.volume.items) e.small (e.way told) (e.each told) o.0 o.1 o.2 refused.fault is)
    (c.run_session.ensures.halts told)

pub returns-clause-device : goal.returns-clause-device
returns-clause-device g c =
    let later = c.in-Ok.ensures.later in
    IfErr-weaker c.run_session.result _ _ (λ refused rises is. (let cause = rises is in omega (arith, cause, later))) c.run_session.ensures.device

pub returns-in-Err-clause-late : goal.returns-in-Err-clause-late
returns-in-Err-clause-late g c = open_late c.stop_of_open.result c.in-Err.refused.fault c.stop_of_open.ensures

pub returns-clause-steady : goal.returns-clause-steady
returns-clause-steady g c = IfOk-weaker c.run_session.result _ _ (λ done is. is ∙ c.in-Ok.ensures.steady) c.run_session.ensures.steady

pub returns-clause-calm : goal.returns-clause-calm
returns-clause-calm g c = IfErr-weaker c.run_session.result _ _ (λ refused is not. is not ∙ c.in-Ok.ensures.steady) c.run_session.ensures.calm

pub returns-clause-sure : goal.returns-clause-sure
returns-clause-sure g c = λ told. IfErr-weaker c.run_session.result _ _ (λ refused is _ not. is not) (c.run_session.ensures.sure told)
