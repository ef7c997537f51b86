use Rattle.std.proofs.Common.{rules}
use Rattle.turn_table.specs.Told.{HasEnded}
use Rattle.turn_bench.proofs.Below.{below_two}
use Rattle.turn_bench.proofs.waiters.waiting.Goals as goal

pub close-both-requires-clause-ended : goal.close-both-requires-clause-ended
close-both-requires-clause-ended g c =
    let one = c.end-2.ensures.ended in
    (2, search rules, below_two (λ k. HasEnded k c.end-2.new.first.me.0.ended) (one.1 0 c.end.ensures.ended.0) one.0)
