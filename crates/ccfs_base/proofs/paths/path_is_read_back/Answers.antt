use Rattle.ccfs_base.proofs.Spelling.{path_of_text}
use Rattle.ccfs_base.proofs.paths.path_is_read_back.Goals as goal

pub returns : goal.returns
returns c = path_of_text
