use Rattle.std.proofs.Common.{◌≡◌, ℕ, ◌≤◌, ◌<◌, get_or, false, if◌then◌else◌}
use Rattle.disk_model.specs.Pick.{mixed, loose_byte}
use Rattle.disk_model.proofs.image.draw_loose.Given as goal

abbrev pub invariant-loop-place : goal.invariant-loop-place
invariant-loop-place l = record {
  drawn : (k : ℕ) → k < l.place → get_or l.image k 0 ≡ (if get_or l.loose k false then loose_byte (mixed l.pick k) (get_or l.initial.image k 0) (get_or l.now k 0) else get_or l.initial.image k 0);
  rest : (k : ℕ) → l.place ≤ k → get_or l.image k 0 ≡ get_or l.initial.image k 0;
}
