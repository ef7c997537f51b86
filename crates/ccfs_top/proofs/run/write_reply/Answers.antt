use Rattle.std.proofs.Common.{refl}
use Rattle.ccfs_top.proofs.Ending.{part_of_line}
use Rattle.ccfs_top.proofs.run.write_reply.Goals as goal

pub returns-in-Err-clause-sink : goal.returns-in-Err-clause-sink
returns-in-Err-clause-sink g c = λ told is.
    part_of_line (g.K.Sink.held c.args.out.now) (g.K.Sink.held c.write_all.new.out) c.args.line.now c.args.line.now
    (c.in-Err.ensures.err told) refl
