use Rattle.std.proofs.Common.{◌∙◌}
use Rattle.script_text.specs.Trees.{tree_lines}
use Rattle.ccfs_top.proofs.Ending.{part_of_line}
use Rattle.ccfs_top.proofs.finish.write_tree.Goals as goal

pub returns-clause-sink : goal.returns-clause-sink
returns-clause-sink g c = λ told is.
    part_of_line (g.K.Sink.held c.args.out.now) (g.K.Sink.held c.write_all.new.out) (tree_lines c.args.number c.args.picture.now) c.all.result.now (c.in-Err.ensures.err told) (c.all.ensures ∙ c.in-Ok.ensures)
