use Rattle.std.proofs.Common.{rules}
use Rattle.turn_table.specs.Told.{HasEnded}
use Rattle.turn_bench.proofs.Below.{below_one}
use Rattle.turn_bench.proofs.costs.turns.Goals as goal

pub close-both-requires-clause-ended : goal.close-both-requires-clause-ended
close-both-requires-clause-ended g c = (1, search rules, below_one (λ k. HasEnded k c.end.new.first.me.0.ended) c.end.ensures.ended.0)
