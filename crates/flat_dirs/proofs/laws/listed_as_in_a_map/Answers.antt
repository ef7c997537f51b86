use Rattle.flat_dirs.proofs.Directory.{listed_in_directory}
use Rattle.flat_dirs.proofs.laws.listed_as_in_a_map.Goals as goal

pub returns : goal.returns
returns c = listed_in_directory c.args.slots.now c.args.parent c.requires
