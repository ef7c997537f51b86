use Rattle.std.proofs.Common.{◌≡◌, ℕ}
use Rattle.turn_table.specs.Views.{told}
use Rattle.turn_tests.proofs.toys.wait_for.Given as goal

abbrev pub invariant-loop : goal.invariant-loop
invariant-loop g l = (l.seat.table_id ≡ l.initial.seat.table_id) × ((n : ℕ) × (l.seat.me ≡ (told l.initial.seat.me.0 n, l.initial.seat.me.1)))
