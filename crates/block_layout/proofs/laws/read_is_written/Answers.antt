use Rattle.block_layout.proofs.Written.{right_is_written}
use Rattle.block_layout.proofs.laws.read_is_written.Goals as goal

pub returns : goal.returns
returns c = right_is_written c.args.bytes.now c.told-bytes c.fits-bytes c.requires
