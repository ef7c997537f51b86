use Rattle.std.proofs.Common.{refl, ◌∙◌}
use Rattle.recovery.proofs.Written.{made_by, front_fits}
use Rattle.atomic_volume.proofs.Steady.{passed_on}
use Rattle.recovery.specs.declared.fault.MakeFault.TheVariants.{Device}
use Rattle.recovery.proofs.making.make.Goals as goal

pub write_at-requires : goal.write_at-requires
write_at-requires g c =
    front_fits c.args.geometry.now c.deref.result.now (g.D.Disk.known c.set_length.new.disk) (c.deref.ensures.value ∙ c.in_ok-front.ensures) (c.in_ok-set_length.ensures.known ∙ c.bytes.ensures)

pub returns-clause-fresh : goal.returns-clause-fresh
returns-clause-fresh g c = λ told.
    let d = g.D.Disk in let s = c.set_length.new.disk in
    let first = c.in_ok-set_length.ensures.settled told in
    let second = c.in_ok-write_at.ensures.doubt told first in
    let third = c.in_ok-write_at-2.ensures.doubt told second in
    made_by c.args.geometry.now (d.seen s) (d.seen c.write_at.new.self) (d.seen c.write_at-2.new.self) (d.seen c.sync.new.self)
    c.deref.result.now c.in_ok-front.front.items c.in_ok-tables.tables.items c.deref-2.result.now c.bytes.result c.from.result
    (record { size_is = c.bytes.ensures; place_is = c.from.ensures })
    (g.met.D.Disk.length_seen told s ∙ c.in_ok-set_length.ensures.known)
    c.in_ok-front.ensures
    c.written_is_read.ensures.right c.written_is_read.ensures.blocks c.written_is_read.ensures.inodes
    c.deref.ensures.value
    c.in_ok-tables.ensures
    c.deref-2.ensures.value
    (c.in_ok-write_at.ensures.put told first)
    (c.in_ok-write_at-2.ensures.put told second)
    (c.sync.ensures.contents told third)

pub returns-clause-steady : goal.returns-clause-steady
returns-clause-steady g c = λ not.
    c.in_ok-sync.ensures.steady ∙ c.in_ok-write_at-2.ensures.steady ∙ c.in_ok-write_at.ensures.steady ∙ c.in_ok-set_length.ensures.steady

pub returns-in_err-set_length-clause-steady : goal.returns-in_err-set_length-clause-steady
returns-in_err-set_length-clause-steady g c = λ not. absurd (not (passed_on c.from_residual-in_err-set_length.result Device Device c.from_residual-in_err-set_length.ensures.1 refl))

pub returns-in_err-write_at-clause-steady : goal.returns-in_err-write_at-clause-steady
returns-in_err-write_at-clause-steady g c = λ not. absurd (not (passed_on c.from_residual-in_err-write_at.result Device Device c.from_residual-in_err-write_at.ensures.1 refl))

pub returns-in_err-write_at-2-clause-steady : goal.returns-in_err-write_at-2-clause-steady
returns-in_err-write_at-2-clause-steady g c = λ not. absurd (not (passed_on c.from_residual-in_err-write_at-2.result Device Device c.from_residual-in_err-write_at-2.ensures.1 refl))

pub returns-in_err-sync-clause-steady : goal.returns-in_err-sync-clause-steady
returns-in_err-sync-clause-steady g c = λ not. absurd (not (passed_on c.from_residual-in_err-sync.result Device Device c.from_residual-in_err-sync.ensures.1 refl))
