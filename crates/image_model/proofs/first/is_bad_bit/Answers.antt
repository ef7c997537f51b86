use Rattle.std.proofs.Common.{◌+◌, ◌==◌, ◌∙◌}
use Rattle.std.proofs.Math.Path.{ap₂}
use Rattle.std.specs.List.{list_any}
use Rattle.image_model.specs.Checks.{differ}
use Rattle.image_model.proofs.first.is_bad_bit.Goals as goal

pub returns : goal.returns
returns c =
    c.differ.ensures ∙ ap₂ differ c.is_set_at.ensures
    (c.is_among.ensures ∙ ap₂ (λ blocks first. list_any (λ other. other == first + c.args.item) blocks) c.requires.named c.args.geometry.now.first_data_place)
