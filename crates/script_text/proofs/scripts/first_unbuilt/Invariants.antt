use Rattle.std.proofs.Common.{◌≡◌, drop}
use Rattle.script_text.specs.Scripts.{first_unbuilt}
use Rattle.script_text.proofs.scripts.first_unbuilt.Given as goal

abbrev pub invariant-loop-call : goal.invariant-loop-call
invariant-loop-call l = first_unbuilt l.calls ≡ first_unbuilt (drop l.call-index l.calls)
