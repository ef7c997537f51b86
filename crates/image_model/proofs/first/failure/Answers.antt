use Rattle.std.proofs.Common.{sym, ap, ◌∙◌}
use Rattle.image_model.specs.Volumes.{volume_of}
use Rattle.image_model.specs.Checks.{unless, failure}
use Rattle.image_model.proofs.first.failure.Goals as goal

pub returns-in-Root : goal.returns-in-Root
returns-in-Root c = c.root_failure.ensures ∙ ap (failure c.args.limits.now c.args.last (volume_of c.args.geometry.now c.args.bytes.now)) (sym c.in-Root.is)

pub returns-in_ok-are_counted-in-Counts : goal.returns-in_ok-are_counted-in-Counts
returns-in_ok-are_counted-in-Counts c =
    c.unless.ensures ∙ ap (λ b. unless b 260) c.in_ok-are_counted-in-Counts.ensures
    ∙ ap (failure c.args.limits.now c.args.last (volume_of c.args.geometry.now c.args.bytes.now)) (sym c.in-Counts.is)
