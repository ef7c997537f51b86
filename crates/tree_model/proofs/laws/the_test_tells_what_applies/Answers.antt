use Rattle.tree_model.proofs.Fitting.{applies_fits}
use Rattle.tree_model.proofs.laws.the_test_tells_what_applies.Goals as goal

pub returns : goal.returns
returns c = applies_fits
