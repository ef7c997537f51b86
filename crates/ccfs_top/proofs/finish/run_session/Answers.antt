use Rattle.std.proofs.Common.{◌≡◌, ◌++◌, ℕ, List, false, refl, sym, ap, ◌∙◌, subst, arith, append_assoc}
use Rattle.std.specs.declared.result.Result.{Result}
use Rattle.std.specs.declared.result.Result.TheVariants.{Err}
use Rattle.atomic_volume.proofs.Steady.{unless_ok}
use Rattle.tree_model.specs.Picture.{picture}
use Rattle.std.specs.declared.option.Option.TheVariants.{Some}
use Rattle.gate_journal.specs.Runs.{Quiet}
use Rattle.recovery.specs.Recovering.{shown_for_now}
use Rattle.fault_counts.specs.Counts.{Rose}
use Rattle.ccfs_top.specs.declared.stop.Stop.{Stop}
use Rattle.ccfs_top.specs.Ends.{joined}
use Rattle.ccfs_top.specs.Outcomes.{CrashSafe, Halts}
use Rattle.ccfs_top.specs.Runs.{image_by, final_number, final_tree, ran}
use Rattle.ccfs_top.proofs.Ending.{fault_late}
use Rattle.ccfs_top.proofs.Viewing.{shown_of}
use Rattle.ccfs_top.proofs.Finishing.{kept_then, shown_then, halts_tree}
use Rattle.ccfs_top.proofs.finish.run_session.Goals as goal

told_stop : {x y : Stop} → ◌≡◌ {A = Result (Unit {0}) Stop} (Err x) (Err y) → x ≡ y
told_stop is = cc is

told_shown : {x y : Stop} → ◌≡◌ {A = Result ℕ Stop} (Err x) (Err y) → x ≡ y
told_shown is = cc is

pub returns-in-Err-clause-halts : goal.returns-in-Err-clause-halts
returns-in-Err-clause-halts g c = λ told.
    let s = c.args.session in let calls = c.args.calls.now in let image = image_by s.first s.front in
    subst (λ x. Halts (ran image calls) c.in-Err.fault (CrashSafe g.D.Disk s.volume.disk x image calls) g.K.Sink.tells (g.K.Sink.held c.args.out.now) (g.K.Sink.held c.perform_all.new.out)) (sym c.end.ensures)
    (c.in-Err.ensures.halts told)

pub returns-in-Err-clause-sink_cause : goal.returns-in-Err-clause-sink_cause
returns-in-Err-clause-sink_cause g c = λ is. c.in-Err.ensures.sink_cause (ap (λ (z : Stop). Err z) is)

pub returns-in-Err-clause-late : goal.returns-in-Err-clause-late
returns-in-Err-clause-late g c = fault_late c.in-Err.fault c.in-Err.ensures.fault

pub returns-in-Err-clause-device : goal.returns-in-Err-clause-device
returns-in-Err-clause-device g c = λ is.
    subst (λ x. Rose (g.D.Disk.faults c.args.session.volume.disk) (g.D.Disk.faults x)) (sym c.end.ensures) (c.in-Err.ensures.device (ap (λ (z : Stop). Err z) is))

pub returns-in-Err-write_shown-clause-sink_cause : goal.returns-in-Err-write_shown-clause-sink_cause
returns-in-Err-write_shown-clause-sink_cause g c = λ is.
    let cause = c.in-Err-write_shown.ensures.sink_cause (ap (λ (z : Stop). Err z) is) in
    let later = c.in-Ok.ensures.sink_later in
    omega (arith, cause, later)

pub returns-in-Err-write_shown-clause-device : goal.returns-in-Err-write_shown-clause-device
returns-in-Err-write_shown-clause-device g c = λ is.
    let cause = c.in-Err-write_shown.ensures.device (ap (λ (z : Stop). Err z) is) in
    let later = c.in-Ok.ensures.later in
    let same = ap g.D.Disk.faults c.end-disk.ensures in
    omega (arith, cause, later, same)

pub returns-in-Ok-write_shown-clause-done : goal.returns-in-Ok-write_shown-clause-done
returns-in-Ok-write_shown-clause-done g c = λ told.
    let d = g.D.Disk in
    let s = c.args.session in
    let calls = c.args.calls.now in
    let image = image_by s.first s.front in
    let number = final_number image calls in
    let items = picture (final_tree image calls) in
    let v = c.perform_all.new.session.volume in
    let disk = c.end-disk.result in
    let new = c.write_shown.new.disk in
    let is : disk ≡ v.disk = c.end-disk.ensures in
    let settled : d.in_doubt disk ≡ false = ap d.in_doubt is ∙ v.settled told c.in-Ok.ensures.working in
    let holds = v.sound told c.in-Ok.ensures.working (d.seen v.disk) (g.met.D.Disk.may_leave_seen told v.disk) in
    let shows : shown_for_now (d.seen disk) ≡ Some (number, items) = ap (λ x. shown_for_now (d.seen x)) is ∙ shown_of v.geometry v.half v.volume.items (d.seen v.disk) number items holds c.in-Ok.ensures.shows in
    let quiet = subst (λ x. Quiet d x new) is (c.in-Ok-write_shown.ensures.quiet told) in
    let each : (x : List ℕ) → d.may_leave v.disk x → shown_for_now x ≡ Some (number, items)
    = λ x may. shown_of v.geometry v.half v.volume.items x number items (v.sound told c.in-Ok.ensures.working x may) c.in-Ok.ensures.shows in
    let old_text = g.K.Sink.held c.args.out.now in
    let e = ran image calls in record {
      batches = c.in-Ok-write_shown.ensures.number told settled number items shows;
      kept = kept_then d s.volume.disk v.disk new image calls _ (g.met.D.Disk.counts_now told) (c.in-Ok.ensures.kept told) quiet;
      exact = shown_then d v.disk new (number, items) (g.met.D.Disk.counts_now told) each quiet;
      text = λ sink_told. c.in-Ok-write_shown.ensures.text told sink_told settled number items shows ∙ ap (λ (z : List ℕ). z ++ e.last) (c.in-Ok.ensures.text sink_told)
          ∙ append_assoc old_text (joined e.replies) e.last;
    }

pub returns-in-Err-write_shown-clause-halts : goal.returns-in-Err-write_shown-clause-halts
returns-in-Err-write_shown-clause-halts g c = λ told.
    let d = g.D.Disk in
    let s = c.args.session in
    let calls = c.args.calls.now in
    let image = image_by s.first s.front in
    let number = final_number image calls in
    let items = picture (final_tree image calls) in
    let v = c.perform_all.new.session.volume in
    let disk = c.end-disk.result in
    let new = c.write_shown.new.disk in
    let is : disk ≡ v.disk = c.end-disk.ensures in
    let settled : d.in_doubt disk ≡ false = ap d.in_doubt is ∙ v.settled told c.in-Ok.ensures.working in
    let holds = v.sound told c.in-Ok.ensures.working (d.seen v.disk) (g.met.D.Disk.may_leave_seen told v.disk) in
    let shows : shown_for_now (d.seen disk) ≡ Some (number, items) = ap (λ x. shown_for_now (d.seen x)) is ∙ shown_of v.geometry v.half v.volume.items (d.seen v.disk) number items holds c.in-Ok.ensures.shows in
    let e = c.in-Err-write_shown.ensures in
    halts_tree (ran image calls) c.in-Err-write_shown.fault (CrashSafe d s.volume.disk new image calls) g.K.Sink.tells (g.K.Sink.held c.args.out.now) (g.K.Sink.held c.perform_all.new.out) (g.K.Sink.held c.write_shown.new.out)
    refl (e.fault told settled number items shows)
    (kept_then d s.volume.disk v.disk new image calls _ (g.met.D.Disk.counts_now told) (c.in-Ok.ensures.kept told) (subst (λ x. Quiet d x new) is (e.quiet told)))
    (λ sink_told. c.in-Ok.ensures.text sink_told)
    (λ sink_told cause. e.sink told sink_told settled number items shows (ap (λ z. Err z) cause))
    (λ sink_told not. e.unwritten sink_told (λ no. not (cc no)))

-- ---- the count of faults, and the doubt

pub returns-in-Err-clause-calm : goal.returns-in-Err-clause-calm
returns-in-Err-clause-calm g c = λ not. ap g.D.Disk.faults c.end.ensures ∙ c.in-Err.ensures.steady (λ is. not (told_stop is))

pub returns-in-Err-clause-sure : goal.returns-in-Err-clause-sure
returns-in-Err-clause-sure g c = λ told not.
    ap g.D.Disk.in_doubt c.end.ensures ∙ c.perform_all.new.session.volume.settled told (c.in-Err.ensures.unfailed (λ is. not (told_stop is)))

pub returns-in-Ok-write_shown-clause-steady : goal.returns-in-Ok-write_shown-clause-steady
returns-in-Ok-write_shown-clause-steady g c =
    unless_ok _ _ c.in-Ok-write_shown.ensures.steady ∙ ap g.D.Disk.faults c.end-disk.ensures ∙ unless_ok _ _ c.in-Ok.ensures.steady

pub returns-in-Ok-write_shown-clause-settled : goal.returns-in-Ok-write_shown-clause-settled
returns-in-Ok-write_shown-clause-settled g c = λ told.
    (c.in-Ok-write_shown.ensures.quiet told).doubt (ap g.D.Disk.in_doubt c.end-disk.ensures ∙ c.perform_all.new.session.volume.settled told c.in-Ok.ensures.working)

pub returns-in-Err-write_shown-clause-calm : goal.returns-in-Err-write_shown-clause-calm
returns-in-Err-write_shown-clause-calm g c = λ not.
    c.in-Err-write_shown.ensures.steady (λ is. not (told_shown is)) ∙ ap g.D.Disk.faults c.end-disk.ensures ∙ unless_ok _ _ c.in-Ok.ensures.steady

pub returns-in-Err-write_shown-clause-sure : goal.returns-in-Err-write_shown-clause-sure
returns-in-Err-write_shown-clause-sure g c = λ told _.
    (c.in-Err-write_shown.ensures.quiet told).doubt (ap g.D.Disk.in_doubt c.end-disk.ensures ∙ c.perform_all.new.session.volume.settled told c.in-Ok.ensures.working)

pub returns-in-Ok-write_shown-clause-sink_steady : goal.returns-in-Ok-write_shown-clause-sink_steady
returns-in-Ok-write_shown-clause-sink_steady g c = unless_ok _ _ c.in-Ok-write_shown.ensures.sink_steady ∙ unless_ok _ _ c.in-Ok.ensures.sink_steady
