use Rattle.std.proofs.Common.{arith}
use Rattle.flat_dirs.proofs.Written.{read_back}
use Rattle.flat_dirs.proofs.laws.written_is_read.Goals as goal

pub returns : goal.returns
returns c = read_back c.args.slot.now (omega arith) c.requires
