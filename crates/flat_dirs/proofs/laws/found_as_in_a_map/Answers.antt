use Rattle.flat_dirs.proofs.Directory.{found_in_directory}
use Rattle.flat_dirs.proofs.laws.found_as_in_a_map.Goals as goal

pub returns : goal.returns
returns c = found_in_directory c.args.slots.now c.args.parent c.args.name.now
