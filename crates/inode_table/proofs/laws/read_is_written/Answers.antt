use Rattle.inode_table.proofs.Written.{attr_written}
use Rattle.inode_table.proofs.laws.read_is_written.Goals as goal

pub returns : goal.returns
returns c = attr_written c.args.bytes.now c.args.attr.now c.told-bytes (record { below = c.fits-bytes }) c.requires.bare c.requires.read
