use Rattle.tree_model.proofs.Found.{entry_is}
use Rattle.tree_model.proofs.laws.an_entry_stands_at_its_name.Goals as goal

pub returns : goal.returns
returns c = entry_is
