use Rattle.std.proofs.Common.{sym, drop, length, subst, arith}
use Rattle.std.proofs.lemmas.List.{take_at}
use Rattle.recovery.specs.Fresh.{AreTables}
use Rattle.recovery.proofs.making.fresh_tables.Goals as goal

pub returns : goal.returns
returns c =
    let new = c.put_tables.new.tables in
    subst (AreTables c.args.geometry.now)
    (sym (take_at new (drop (length new) c.in_ok-tables.tables.items) c.in_ok-tables.tables.len (omega (arith, c.put_tables.ensures.long, c.in_ok-tables.ensures.len))))
    c.put_tables.ensures
