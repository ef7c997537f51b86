use Rattle.std.proofs.Common.{◌∙◌}
use Rattle.std.proofs.Math.Path.{ap₂}
use Rattle.image_model.specs.Checks.{unless}
use Rattle.image_model.proofs.first.root_failure.Goals as goal

pub returns : goal.returns
returns c = c.unless.ensures ∙ ap₂ unless c.are_directories.ensures c.record_block.ensures
