use Rattle.std.proofs.Common.{sym, ◌∙◌, subst}
use Rattle.atomic_volume.specs.Held.{ReadsAs, contents_by}
use Rattle.atomic_volume.proofs.Switches.{holds_moved, moved_by}
use Rattle.atomic_volume.proofs.volume.Volume.checkpoint.Goals as goal

pub invariant_of-self : goal.invariant_of-self
invariant_of-self g c =
    let d = g.D.Disk in let v = c.args.self.now in let s0 = v.disk in let s1 = c.move_home.new.disk in
    record {
      size_is = c.in-Ok.ensures.size ∙ v.size_is;
      whole = v.whole;
      known_is = c.move_home.ensures.known ∙ v.known_is;
      settled = λ told working. c.in-Ok.ensures.settled told;
      sound = λ told working x may.
          subst (ReadsAs v.geometry c.in-Ok.half v.volume.items) (sym (c.in-Ok.ensures.durable told x may))
          (holds_moved v.geometry v.half c.in-Ok.half v.volume.items (d.seen s0) (d.seen s1) (v.sound told c.requires.working (d.seen s0) (g.met.D.Disk.may_leave_seen told s0))
          (c.in-Ok.ensures.bears told) (c.in-Ok.ensures.opens told) c.in-Ok.ensures.empty
          (g.met.D.Disk.length_seen told s1 ∙ c.move_home.ensures.known ∙ sym (g.met.D.Disk.length_seen told s0)));
    }

pub returns-in-Ok-clause-any_moment : goal.returns-in-Ok-clause-any_moment
returns-in-Ok-clause-any_moment g c = λ told.
    let d = g.D.Disk in let v = c.args.self.now in let s0 = v.disk in
    moved_by d s0 c.move_home.new.disk (contents_by v.geometry v.half v.volume.items) (v.sound told c.requires.working (d.seen s0) (g.met.D.Disk.may_leave_seen told s0)).opens (c.move_home.ensures.any_moment told)

pub returns-in-Err-clause-any_moment : goal.returns-in-Err-clause-any_moment
returns-in-Err-clause-any_moment g c = λ told.
    let d = g.D.Disk in let v = c.args.self.now in let s0 = v.disk in
    moved_by d s0 c.move_home.new.disk (contents_by v.geometry v.half v.volume.items) (v.sound told c.requires.working (d.seen s0) (g.met.D.Disk.may_leave_seen told s0)).opens (c.move_home.ensures.any_moment told)
