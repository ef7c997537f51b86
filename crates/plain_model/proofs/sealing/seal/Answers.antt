use Rattle.std.proofs.Common.{◌∙◌}
use Rattle.plain_model.proofs.SealSteps.{rest_without}
use Rattle.plain_model.proofs.sealing.seal.Goals as goal

pub returns : goal.returns
returns c = c.keep_others.ensures ∙ rest_without c.args.stream c.args.unsealed.now.items
