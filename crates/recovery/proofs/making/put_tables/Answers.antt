use Rattle.std.proofs.Common.{◌∙◌, ap}
use Rattle.disk_model.specs.Bytes.{patched}
use Rattle.recovery.proofs.Tables.{tables_are}
use Rattle.recovery.proofs.making.put_tables.Goals as goal

pub returns : goal.returns
returns c =
    let fixed = c.encode_attr-fixed.result in
    tables_are c.args.geometry.now c.args.tables.now c.put.new.bytes c.put-2.new.bytes c.put-3.new.bytes c.put-4.new.bytes c.fresh_counters.result fixed
    c.requires c.fresh_counters.ensures c.encode_attr-fixed.ensures
    c.put.ensures.put c.put-2.ensures.put
    (c.put-3.ensures.put ∙ ap (λ p. patched c.put-2.new.bytes p fixed) c.record_offset.ensures)
    (c.put-4.ensures.put ∙ ap (λ p. patched c.put-3.new.bytes p fixed) c.record_offset-2.ensures)
