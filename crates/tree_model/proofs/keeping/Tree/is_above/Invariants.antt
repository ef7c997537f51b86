use Rattle.std.proofs.Common.{◌≡◌}
use Rattle.std.specs.declared.option.Option.TheVariants.{Some}
use Rattle.tree_model.specs.Tests.{is_above}
use Rattle.tree_model.proofs.keeping.Tree.is_above.Given as goal

abbrev pub invariant-loop-left : goal.invariant-loop-left
invariant-loop-left l = is_above l.fn.steps l.fn.self l.fn.id (Some l.fn.from) ≡ is_above l.left l.fn.self l.fn.id (Some l.at)

abbrev pub decreases-loop-left : goal.decreases-loop-left
decreases-loop-left l = l.left
