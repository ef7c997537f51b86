use Rattle.std.proofs.Common.{◌∙◌}
use Rattle.front_core.specs.declared.pending.Pending.{Pending}
use Rattle.front_core.proofs.Entered.{entered}
use Rattle.front_core.proofs.pending.Pending.enter.Goals as goal

pub returns-clause-entered : goal.returns-clause-entered
returns-clause-entered c count t unsealed cost tree have owned fits built makes weighs told operations of =
    let e = c.args.entering in
    let new : Pending = record { meta = c.log_all.new.meta; txns = c.add.new.self; keys = c.add-2.new.self; free = c.enter.new.self } in
    entered count c.args.inodes.now c.args.self.now new t unsealed e.stream c.args.update.now cost c.all.result.now e.ops e.gave_rows c.log_all.ensures
    c.add.ensures.txns c.add-2.ensures.book
    (c.enter.ensures.taken count t unsealed cost tree have owned fits built makes)
    weighs (c.all.ensures ∙ told) operations of
