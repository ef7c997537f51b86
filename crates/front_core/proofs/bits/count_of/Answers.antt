use Rattle.std.proofs.Common.{◌≡◌, length, subst, arith}
use Rattle.std.specs.List.{filter, range_with_len}
use Rattle.cross_dep.specs.Books.{has_bit}
use Rattle.front_core.proofs.bits.count_of.Goals as goal

pub returns-clause-count : goal.returns-clause-count
returns-clause-count c =
    let all : c.loop-stream.stream ≡ 64 = omega (arith, c.loop-stream-test.false, c.loop-stream.auto.stream-end) in
    subst (λ k. c.loop-stream.count ≡ length (filter (has_bit c.args.bits) (range_with_len 0 k))) all c.loop-stream.invariant.counted
