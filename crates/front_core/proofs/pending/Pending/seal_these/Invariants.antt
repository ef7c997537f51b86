use Rattle.std.proofs.Common.{◌≡◌, ℕ, ◌<◌, ◌≤◌, true, false}
use Rattle.std.specs.List.{filter, range_with_len}
use Rattle.cross_dep.specs.Books.{has_bit}
use Rattle.front_core.specs.Pending.{IsHeld, IsDue, AreSealed}
use Rattle.front_core.proofs.pending.Pending.seal_these.Given as goal

abbrev pub invariant-loop-stream : goal.invariant-loop-stream
invariant-loop-stream l = record {
  sealed : AreSealed l.fn.self (filter (has_bit l.sealed) (range_with_len 0 l.stream)) l.self;
  held : IsHeld l.self;
  due : (s : ℕ) → l.stream ≤ s → s < 64 → has_bit l.sealed s ≡ true → IsDue l.self s;
  others : (s : ℕ) → s < 64 → has_bit l.sealed s ≡ false → IsDue l.fn.self s → IsDue l.self s;
}
