use Rattle.std.proofs.Common.{◌≡◌}
use Rattle.turn_table.specs.Told.{IsIdle}
use Rattle.turn_bench.proofs.costs.pass_all.Given as goal

abbrev pub invariant-loop : goal.invariant-loop
invariant-loop g l = (l.seat.table_id ≡ l.initial.seat.table_id) × IsIdle 0 l.seat.me
