use Rattle.std.proofs.Common.{length, ap, ◌∙◌}
use Rattle.shared_meta.specs.Area.{area, log_of}
use Rattle.delta_log.proofs.Records.{all_recorded_length}
use Rattle.front_core.specs.declared.pending.Pending.{Pending}
use Rattle.front_core.proofs.Sealing.{sealed_one}
use Rattle.front_core.proofs.Before.{held_sealed, due_sealed}
use Rattle.front_core.proofs.pending.Pending.seal.Goals as goal

pub returns-clause-sealed : goal.returns-clause-sealed
returns-clause-sealed c =
    let old = c.args.self.now in
    let new : Pending = record { meta = c.seal-recs.new.self; txns = c.seal.new.self; keys = c.forget.new.self; free = c.release.new.self } in
    sealed_one old new c.args.stream c.seal-recs.result c.seal-recs.ensures.handed c.seal-recs.ensures.sealed
    (ap length c.seal-recs.ensures.sealed.base ∙ all_recorded_length (log_of (area old.meta) c.args.stream) old.meta.base)
    c.seal.ensures.txns c.seal.ensures.queue c.seal.ensures.seals c.forget.ensures.book c.release.ensures.taken
    (record { meta = c.seal-recs.ensures.sealed.room; txns = c.seal.ensures.room; keys = c.forget.ensures.room; places = c.release.ensures.places; count = c.release.ensures.count })

pub returns-clause-held : goal.returns-clause-held
returns-clause-held c held =
    let new : Pending = record { meta = c.seal-recs.new.self; txns = c.seal.new.self; keys = c.forget.new.self; free = c.release.new.self } in
    held_sealed c.args.self.now new c.args.stream c.seal.ensures.txns held

pub returns-clause-others : goal.returns-clause-others
returns-clause-others c r ne held due =
    let new : Pending = record { meta = c.seal-recs.new.self; txns = c.seal.new.self; keys = c.forget.new.self; free = c.release.new.self } in
    due_sealed c.args.self.now new c.args.stream r ne c.seal.ensures.txns c.seal.ensures.places c.seal-recs.ensures.sealed.places held due
