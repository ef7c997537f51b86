use Rattle.std.proofs.Common.{arith}
use Rattle.inode_table.proofs.Written.{attr_read}
use Rattle.inode_table.proofs.laws.written_is_read.Goals as goal

pub returns : goal.returns
returns c =
    let attr = c.args.attr.now in
    attr_read attr.kind attr.length attr.changes (omega arith) (omega arith)
