use Rattle.std.proofs.Common.{ℕ, subst, sym}
use Rattle.atomic_volume.specs.Held.{IsSized}
use Rattle.atomic_volume.proofs.Laid.{named_by, refused_by}
use Rattle.atomic_volume.specs.declared.fault.VolumeFault.TheVariants.{Device}
use Rattle.atomic_volume.proofs.Steady.{passed_on}
use Rattle.atomic_volume.proofs.reading.read_super.Goals as goal

pub returns-clause-named : goal.returns-clause-named
returns-clause-named g c = λ told settled.
    let d = g.D.Disk in let s = c.args.disk.now in
    named_by (d.seen s) c.fill.new.into c.args.blocks c.check_super.result (c.in_ok-fill.ensures.bytes told settled)
    (subst (λ (n : ℕ). IsSized n c.args.blocks) (sym (g.met.D.Disk.length_seen told s)) c.requires)
    c.check_super.ensures.right c.check_super.ensures.blocks c.check_super.ensures.inodes

pub returns-clause-refuses : goal.returns-clause-refuses
returns-clause-refuses g c = λ told settled.
    let d = g.D.Disk in let s = c.args.disk.now in
    refused_by (d.seen s) c.fill.new.into c.args.blocks c.check_super.result (c.in_ok-fill.ensures.bytes told settled)
    (subst (λ (n : ℕ). IsSized n c.args.blocks) (sym (g.met.D.Disk.length_seen told s)) c.requires)
    c.check_super.ensures.wrong

pub returns-in_err-fill-clause-steady : goal.returns-in_err-fill-clause-steady
returns-in_err-fill-clause-steady g c = λ not. absurd (not (passed_on c.from_residual.result c.in_err-fill.field-0.0 Device c.from_residual.ensures.1 c.in_err-fill.ensures.fault))
