-- Sets of streams as numbers.
use Rattle.std.specs.Prelude.{ℕ, Bool, ◌==◌}
use Rattle.std.specs.Int.{bit_at}

-- whether bit s of a number is set: 5 has the bits 0 and 2
abbrev pub has_bit : ℕ → ℕ → Bool
has_bit bits s = bit_at bits s == 1
