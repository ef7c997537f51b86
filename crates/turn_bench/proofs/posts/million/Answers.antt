use Rattle.std.proofs.Common.{rules}
use Rattle.turn_table.specs.Told.{HasEnded}
use Rattle.turn_bench.proofs.Below.{below_four}
use Rattle.turn_bench.proofs.posts.million.Goals as goal

pub close-history-requires-clause-ended : goal.close-history-requires-clause-ended
close-history-requires-clause-ended g c =
    let one = c.end-2.ensures.ended in
    let two = c.end-3.ensures.ended in
    let three = c.end-4.ensures.ended in
    (4, search rules, below_four (λ k. HasEnded k c.end-4.new.first.me.0.ended) (three.1 0 (two.1 0 (one.1 0 c.end.ensures.ended.0))) (three.1 1 (two.1 1 one.0)) (three.1 2 two.0) three.0)
