use Rattle.std.proofs.Common.{◌≡◌, drop}
use Rattle.history_model.specs.State.{ignores_in}
use Rattle.plain_model.proofs.finding.ignores_in.Given as goal

abbrev pub invariant-loop-choice : goal.invariant-loop-choice
invariant-loop-choice l = ignores_in (drop l.choice-index l.choices) l.actor ≡ ignores_in l.choices l.actor
