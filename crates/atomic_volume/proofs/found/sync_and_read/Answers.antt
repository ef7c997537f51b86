use Rattle.std.proofs.Common.{ℕ, List, Result, Ok, Err, IfOk, refl, sym, ◌∙◌, ap, subst}
use Rattle.std.specs.Prelude.{IfErr}
use Rattle.gate_journal.proofs.Quiets.{quiet_one, quiet_then}
use Rattle.atomic_volume.specs.Opening.{opened}
use Rattle.atomic_volume.specs.Held.{ReadsAs}
use Rattle.atomic_volume.specs.Refusals.{Refuses}
use Rattle.atomic_volume.proofs.Finds.{found_mid, found_settled}
use Rattle.atomic_volume.specs.declared.fault.VolumeFault.TheVariants.{Device}
use Rattle.atomic_volume.proofs.Steady.{passed_on}
use Rattle.atomic_volume.proofs.found.sync_and_read.Goals as goal

if_ok : {A E : Type 0} (P Q : A → Type 0) (r : Result A E) → IfOk r P → ((a : A) → P a → Q a) → IfOk r Q
if_ok P Q (Ok a) p so = so a p
if_ok P Q (Err e) p so = tt

if_err : {A E : Type 0} (P Q : E → Type 0) (r : Result A E) → IfErr r P → ((e : E) → P e → Q e) → IfErr r Q
if_err P Q (Ok a) p so = tt
if_err P Q (Err e) p so = so e p

pub returns-clause-quiet : goal.returns-clause-quiet
returns-clause-quiet g c = λ told.
    let d = g.D.Disk in let s1 = c.sync.new.self in let e = c.sync.ensures in
    quiet_then d c.args.disk.now s1 c.read_image.new.disk (g.met.D.Disk.counts_now told s1)
    (quiet_one d c.args.disk.now s1 (e.time told) (e.crash told) (e.contents told) (e.doubt told)) (c.read_image.ensures.quiet told)

pub returns-clause-found : goal.returns-clause-found
returns-clause-found g c = λ told.
    let d = g.D.Disk in let s0 = c.args.disk.now in let s1 = c.sync.new.self in let s2 = c.read_image.new.disk in
    let law = g.met.D.Disk.counts_now told in let e = c.sync.ensures in
    let durable = c.in_ok-sync.ensures.durable told in let settled = c.in_ok-sync.ensures.settled told in
    let quiet = c.read_image.ensures.quiet told in
    if_ok _ _ c.read_image.result (c.read_image.ensures.holds told settled) (λ image holds. record {
      settled = found_settled d s0 s1 s2 (law s1) (law s2) (g.met.D.Disk.may_leave_seen told s1) (e.time told) (e.crash told) (e.contents told) durable settled quiet;
      opens = ap opened (quiet.contents settled) ∙ holds.opens;
    })

pub returns-clause-bad : goal.returns-clause-bad
returns-clause-bad g c = λ told.
    let d = g.D.Disk in let s0 = c.args.disk.now in let s1 = c.sync.new.self in let s2 = c.read_image.new.disk in
    let law = g.met.D.Disk.counts_now told in let e = c.sync.ensures in
    let durable = c.in_ok-sync.ensures.durable told in let settled = c.in_ok-sync.ensures.settled told in
    let quiet = c.read_image.ensures.quiet told in
    if_err _ _ c.read_image.result (c.read_image.ensures.refuses told settled) (λ fault refuses bad. record {
      settled = found_settled d s0 s1 s2 (law s1) (law s2) (g.met.D.Disk.may_leave_seen told s1) (e.time told) (e.crash told) (e.contents told) durable settled quiet;
      refuses = subst (λ (l : List ℕ). Refuses l fault) (sym (quiet.contents settled)) refuses;
    })

pub returns-clause-holds : goal.returns-clause-holds
returns-clause-holds g c = λ told.
    let d = g.D.Disk in let s0 = c.args.disk.now in let s1 = c.sync.new.self in let s2 = c.read_image.new.disk in
    let law = g.met.D.Disk.counts_now told in let e = c.sync.ensures in
    let durable = c.in_ok-sync.ensures.durable told in let settled = c.in_ok-sync.ensures.settled told in
    let quiet = c.read_image.ensures.quiet told in
    if_ok _ _ c.read_image.result (c.read_image.ensures.holds told settled) (λ image holds x may.
    subst (ReadsAs image.geometry image.half image.volume.items)
    (sym (found_mid d s0 s1 s2 (law s1) (law s2) (g.met.D.Disk.may_leave_seen told s1) (e.time told) (e.crash told) (e.contents told) durable settled quiet x may)) holds)

pub returns-in_err-sync-clause-steady : goal.returns-in_err-sync-clause-steady
returns-in_err-sync-clause-steady g c = λ not. absurd (not (passed_on c.from_residual.result Device Device c.from_residual.ensures.1 refl))

pub returns-clause-steady : goal.returns-clause-steady
returns-clause-steady g c = λ not. c.read_image.ensures.steady not ∙ c.in_ok-sync.ensures.steady
