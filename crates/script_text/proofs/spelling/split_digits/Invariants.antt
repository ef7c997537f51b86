use Rattle.std.proofs.Common.{◌≡◌, ◌++◌, ◌≤◌, ℕ, List, length}
use Rattle.script_text.specs.Data.{digits_before, pieces_of, runs_of}
use Rattle.script_text.proofs.spelling.split_digits.Given as goal

abbrev pub invariant-loop-run : goal.invariant-loop-run
invariant-loop-run l =
    (front : List ℕ) × (l.fn.bytes ≡ front ++ l.rest) × (pieces_of (runs_of l.fn.bytes) ≡ digits_before front (pieces_of (runs_of l.rest))) × (length l.rest ≤ length l.fn.behind)

abbrev pub decreases-loop-run : goal.decreases-loop-run
decreases-loop-run l = length l.rest
