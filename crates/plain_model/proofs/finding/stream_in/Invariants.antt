use Rattle.std.proofs.Common.{◌≡◌, drop}
use Rattle.history_model.specs.State.{stream_in}
use Rattle.plain_model.proofs.finding.stream_in.Given as goal

abbrev pub invariant-loop-choice : goal.invariant-loop-choice
invariant-loop-choice l = stream_in (drop l.choice-index l.choices) l.actor ≡ stream_in l.choices l.actor
