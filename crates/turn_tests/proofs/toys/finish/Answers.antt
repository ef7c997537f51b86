use Rattle.std.proofs.Common.{rules}
use Rattle.turn_table.specs.Told.{HasEnded}
use Rattle.turn_table.proofs.Ending.{below_four}
use Rattle.turn_tests.proofs.toys.finish.Goals as goal

pub close-requires-clause-ended : goal.close-requires-clause-ended
close-requires-clause-ended c =
    let one = c.end-2.ensures.ended in
    let two = c.end-3.ensures.ended in
    let three = c.end-4.ensures.ended in
    (4, search rules, below_four (λ k. HasEnded k c.end-4.new.first.me.0.ended) (three.1 0 (two.1 0 (one.1 0 c.end.ensures.ended.0))) (three.1 1 (two.1 1 one.0)) (three.1 2 two.0) three.0)
