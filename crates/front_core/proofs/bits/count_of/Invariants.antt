use Rattle.std.proofs.Common.{◌≡◌, ◌≤◌, length}
use Rattle.std.specs.List.{filter, range_with_len}
use Rattle.cross_dep.specs.Books.{has_bit}
use Rattle.front_core.proofs.bits.count_of.Given as goal

abbrev pub invariant-loop-stream : goal.invariant-loop-stream
invariant-loop-stream l = record { counted : l.count ≡ length (filter (has_bit l.bits) (range_with_len 0 l.stream)); few : l.count ≤ l.stream }
