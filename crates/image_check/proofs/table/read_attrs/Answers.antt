use Rattle.std.proofs.Common.{◌+◌, ap, ◌∙◌, arith}
use Rattle.image_model.specs.Reading.{table_in}
use Rattle.image_check.specs.Tables.{attr_kept}
use Rattle.image_check.proofs.Reading.{one_attr}
use Rattle.image_check.proofs.table.read_attrs.Goals as goal

pub loop-inode-preserved : goal.loop-inode-preserved
loop-inode-preserved c =
    let t = table_in c.args.geometry.now c.args.volume.now in
    record {
      long = c.in_ok-push.ensures.len ∙ ap (λ n. n + 1) c.loop-inode.invariant.long;
      each = one_attr (attr_kept t) c.loop-inode.attrs.items c.push.new.self.items c.attr_kept.result c.loop-inode.inode (omega arith) c.loop-inode.invariant.each c.attr_kept.ensures c.in_ok-push.ensures.items;
    }
