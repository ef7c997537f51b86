use Rattle.std.proofs.Common.{◌≡◌}
use Rattle.turn_table.specs.Told.{IsIdle}
use Rattle.turn_tests.proofs.toys.post_all.Given as goal

abbrev pub invariant-loop-number : goal.invariant-loop-number
invariant-loop-number g l = (l.seat.table_id ≡ l.initial.seat.table_id) × IsIdle l.caller l.seat.me × (l.caller ≡ l.initial.caller)
