use Rattle.std.proofs.Common.{◌≡◌, inl, inr, None, refl, sym, ◌∙◌, ap, subst}
use Rattle.gate_journal.specs.Runs.{Quiet}
use Rattle.image_model.specs.Volumes.{volume_of}
use Rattle.image_model.specs.Checks.{bare, first_failure_for_now}
use Rattle.atomic_volume.specs.Opening.{Contents}
use Rattle.atomic_volume.specs.Held.{contents_by}
use Rattle.atomic_volume.specs.Homing.{at_home}
use Rattle.atomic_volume.specs.Refusals.{Refuses, IsBad as IsBadVolume}
use Rattle.recovery.specs.declared.fault.OpenFault.{OpenFault}
use Rattle.recovery.specs.Bad.{Says}
use Rattle.recovery.specs.Opens.{IsFoundBad}
use Rattle.recovery.specs.Recovering.{volume_in, tree_held}
use Rattle.recovery.proofs.Recovers.{held_as_read, told_as_read, inodes_as_read, recovers_to, passes_closed}
use Rattle.recovery.proofs.Home.{home_holds_the_same, found_then, few_written, found_bad, refused_by}
use Rattle.recovery.proofs.opening.open.Goals as goal

pub returns-in-Err-clause-refuses : goal.returns-in-Err-clause-refuses
returns-in-Err-clause-refuses g c = λ told.
    let d = g.D.Disk in
    refused_by d c.args.disk c.in-Err.field-0.kept c.in-Err.field-0.fault c.of_volume.result (g.met.D.Disk.may_leave_seen told c.args.disk) (c.in-Err.ensures.bad told) c.of_volume.ensures.says

pub returns-in-Err-clause-bad : goal.returns-in-Err-clause-bad
returns-in-Err-clause-bad g c = λ told bad is.
    found_bad g.D.Disk c.args.disk c.in-Err.field-0.kept c.in-Err.field-0.fault c.of_volume.result (c.in-Err.ensures.bad told) c.of_volume.ensures.says bad is (c.of_volume.ensures.bad bad is)

pub returns-in-Err-check-clause-bad : goal.returns-in-Err-check-clause-bad
returns-in-Err-check-clause-bad g c = λ told bad is.
    let d = g.D.Disk in let f = c.in-Ok.found in let was = c.in-Ok.ensures.found told in
    let contents : Contents = contents_by f.geometry f.half f.volume.items in
    subst (λ x. IsFoundBad d c.args.disk x bad) (sym c.end.ensures) (record {
      settled = was.settled;
      is = subst (λ (fault : OpenFault). Says (d.seen f.disk) fault) is (c.of_check.ensures.says (d.seen f.disk) contents was.opens
          (told_as_read contents c.geometry.result.now c.bytes.result.now c.last.result c.in-Err-check.fault (λ i. volume_of (c.geometry.ensures i) (c.bytes.ensures i)) c.last.ensures c.in-Err-check.ensures));
    })

pub returns-in-Err-clause-left : goal.returns-in-Err-clause-left
returns-in-Err-clause-left g c = λ told. inl (c.in-Err.ensures.quiet told)

pub returns-in-Err-clause-unwritten : goal.returns-in-Err-clause-unwritten
returns-in-Err-clause-unwritten g c = inl c.in-Err.ensures.count

pub returns-in-Err-check-clause-refuses : goal.returns-in-Err-check-clause-refuses
returns-in-Err-check-clause-refuses g c = λ told.
    let d = g.D.Disk in let f = c.in-Ok.found in let was = c.in-Ok.ensures.found told in
    let contents : Contents = contents_by f.geometry f.half f.volume.items in
    record {
      contents = d.seen f.disk;
      one_of_them = was.settled.one_of_them;
      as_seen = was.settled.as_seen;
      says = c.of_check.ensures.says (d.seen f.disk) contents was.opens
          (told_as_read contents c.geometry.result.now c.bytes.result.now c.last.result c.in-Err-check.fault (λ i. volume_of (c.geometry.ensures i) (c.bytes.ensures i)) c.last.ensures c.in-Err-check.ensures);
    }

pub returns-in-Err-check-clause-left : goal.returns-in-Err-check-clause-left
returns-in-Err-check-clause-left g c = λ told. inl (subst (λ x. Quiet g.D.Disk c.args.disk x) (sym c.end.ensures) (c.in-Ok.ensures.quiet told))

pub returns-in-Err-check-clause-unwritten : goal.returns-in-Err-check-clause-unwritten
returns-in-Err-check-clause-unwritten g c = inl (ap g.D.Disk.written c.end.ensures ∙ c.in-Ok.ensures.count)

pub returns-in-Ok-start-clause-found : goal.returns-in-Ok-start-clause-found
returns-in-Ok-start-clause-found g c = λ told.
    let f = c.in-Ok.found in let placed = c.in-Ok-check.placed in let v = c.in-Ok-start.volume in
    let contents : Contents = contents_by f.geometry f.half f.volume.items in
    found_then g.D.Disk c.args.disk f.disk c.in-Ok-start.volume.disk contents (contents_by v.geometry v.half v.volume.items) (placed.number, placed.tree) (c.in-Ok.ensures.found told) (c.in-Ok.ensures.quiet told) c.in-Ok-start.ensures.contents
    (held_as_read contents c.geometry.result.now c.bytes.result.now c.last.result placed (λ i. volume_of (c.geometry.ensures i) (c.bytes.ensures i)) c.last.ensures c.in-Ok-check.ensures)
    (c.in-Ok-start.ensures.any_moment told)

pub returns-in-Ok-start-clause-held : goal.returns-in-Ok-start-clause-held
returns-in-Ok-start-clause-held g c =
    let f = c.in-Ok.found in let placed = c.in-Ok-check.placed in
    let contents : Contents = contents_by f.geometry f.half f.volume.items in
    ap tree_held c.in-Ok-start.ensures.contents
    ∙ home_holds_the_same bare contents (placed.number, placed.tree) (held_as_read contents c.geometry.result.now c.bytes.result.now c.last.result placed (λ i. volume_of (c.geometry.ensures i) (c.bytes.ensures i)) c.last.ensures c.in-Ok-check.ensures)

pub returns-in-Ok-start-clause-each : goal.returns-in-Ok-start-clause-each
returns-in-Ok-start-clause-each g c = λ told image left.
    let v = c.in-Ok-start.volume in
    recovers_to image (contents_by v.geometry v.half v.volume.items) (c.in-Ok-check.placed.number, c.in-Ok-check.placed.tree) (c.in-Ok-start.ensures.after told image left) (returns-in-Ok-start-clause-held g c)

pub returns-in-Ok-start-clause-sound : goal.returns-in-Ok-start-clause-sound
returns-in-Ok-start-clause-sound g c =
    let volume : volume_of c.in-Ok-start.volume.geometry c.in-Ok-start.volume.volume.items ≡ volume_of c.geometry.result.now c.bytes.result.now
    = ap volume_in c.in-Ok-start.ensures.contents ∙ (λ i. volume_of (sym c.geometry.ensures i) (sym c.bytes.ensures i)) in
    ap (first_failure_for_now None) volume ∙ (passes_closed bare c.last.result (volume_of c.geometry.result.now c.bytes.result.now) c.in-Ok-check.ensures.passes).1

pub returns-in-Ok-start-clause-inodes : goal.returns-in-Ok-start-clause-inodes
returns-in-Ok-start-clause-inodes g c =
    let volume : volume_of c.in-Ok-start.volume.geometry c.in-Ok-start.volume.volume.items ≡ volume_of c.geometry.result.now c.bytes.result.now
    = ap volume_in c.in-Ok-start.ensures.contents ∙ (λ i. volume_of (sym c.geometry.ensures i) (sym c.bytes.ensures i)) in
    inodes_as_read c.in-Ok-check.placed.inodes _ _ c.in-Ok-check.ensures.inodes volume

pub returns-in-Err-start-clause-refuses : goal.returns-in-Err-start-clause-refuses
returns-in-Err-start-clause-refuses g c = λ told.
    let d = g.D.Disk in let f = c.in-Ok.found in let was = c.in-Ok.ensures.found told in
    record {
      contents = d.seen f.disk;
      one_of_them = was.settled.one_of_them;
      as_seen = was.settled.as_seen;
      says = c.of_volume-in-Err-start.ensures.says (d.seen f.disk) (subst (Refuses (d.seen f.disk)) (sym c.in-Err-start.ensures.device.0) tt);
    }

pub returns-in-Err-start-clause-left : goal.returns-in-Err-start-clause-left
returns-in-Err-start-clause-left g c = λ told.
    let f = c.in-Ok.found in let placed = c.in-Ok-check.placed in
    let contents : Contents = contents_by f.geometry f.half f.volume.items in
    inr (
      c.of_volume-in-Err-start.ensures.told c.in-Err-start.ensures.device.0,
      (
        at_home contents,
        (
          (placed.number, placed.tree),
          found_then g.D.Disk c.args.disk f.disk c.in-Err-start.field-0.kept contents (at_home contents) (placed.number, placed.tree) (c.in-Ok.ensures.found told) (c.in-Ok.ensures.quiet told) refl
              (held_as_read contents c.geometry.result.now c.bytes.result.now c.last.result placed (λ i. volume_of (c.geometry.ensures i) (c.bytes.ensures i)) c.last.ensures c.in-Ok-check.ensures)
              (c.in-Err-start.ensures.any_moment told),
        ),
      ),
    )

pub returns-in-Err-start-clause-unwritten : goal.returns-in-Err-start-clause-unwritten
returns-in-Err-start-clause-unwritten g c = inr (c.of_volume-in-Err-start.ensures.told c.in-Err-start.ensures.device.0)

pub returns-in-Ok-start-clause-count : goal.returns-in-Ok-start-clause-count
returns-in-Ok-start-clause-count g c =
    let d = g.D.Disk in let f = c.in-Ok.found in
    few_written f.half (d.written c.args.disk) (d.written f.disk) (d.written c.in-Ok-start.volume.disk) c.in-Ok.ensures.count c.in-Ok-start.ensures.count

pub returns-in-Err-start-clause-count : goal.returns-in-Err-start-clause-count
returns-in-Err-start-clause-count g c =
    let d = g.D.Disk in let f = c.in-Ok.found in
    few_written f.half (d.written c.args.disk) (d.written f.disk) (d.written c.in-Err-start.field-0.kept) c.in-Ok.ensures.count c.in-Err-start.ensures.count

pub returns-in-Err-start-clause-bad : goal.returns-in-Err-start-clause-bad
returns-in-Err-start-clause-bad g c = λ told bad is. absurd (subst IsBadVolume c.in-Err-start.ensures.device.0 (c.of_volume-in-Err-start.ensures.bad bad is))

pub returns-in-Err-clause-calm : goal.returns-in-Err-clause-calm
returns-in-Err-clause-calm g c = λ not. c.in-Err.ensures.calm (λ is. not (c.of_volume.ensures.told is))

pub returns-in-Err-check-clause-calm : goal.returns-in-Err-check-clause-calm
returns-in-Err-check-clause-calm g c = λ not. ap g.D.Disk.faults c.end.ensures ∙ c.in-Ok.ensures.steady

pub returns-in-Ok-start-clause-steady : goal.returns-in-Ok-start-clause-steady
returns-in-Ok-start-clause-steady g c = c.in-Ok-start.ensures.steady ∙ c.in-Ok.ensures.steady

pub returns-in-Err-start-clause-calm : goal.returns-in-Err-start-clause-calm
returns-in-Err-start-clause-calm g c = λ not. absurd (not (c.of_volume-in-Err-start.ensures.told c.in-Err-start.ensures.device.0))

pub returns-in-Ok-start-clause-settled : goal.returns-in-Ok-start-clause-settled
returns-in-Ok-start-clause-settled g c = λ told. c.in-Ok-start.volume.settled told c.in-Ok-start.ensures.working

pub returns-in-Err-clause-doubt : goal.returns-in-Err-clause-doubt
returns-in-Err-clause-doubt g c = λ told settled not. (c.in-Err.ensures.quiet told).doubt settled

pub returns-in-Err-check-clause-doubt : goal.returns-in-Err-check-clause-doubt
returns-in-Err-check-clause-doubt g c = λ told settled not. ap g.D.Disk.in_doubt c.end.ensures ∙ (c.in-Ok.ensures.found told).settled.sure

pub returns-in-Err-start-clause-doubt : goal.returns-in-Err-start-clause-doubt
returns-in-Err-start-clause-doubt g c = λ told settled not. absurd (not (c.of_volume-in-Err-start.ensures.told c.in-Err-start.ensures.device.0))
