use Rattle.std.proofs.Common.{◌≡◌, ℕ, ◌<◌, ◌&&◌, ◌||◌, nat_le, nat_lt, length, get_or, false}
use Rattle.disk_model.proofs.image.mark.Given as goal

abbrev pub invariant-loop-place : goal.invariant-loop-place
invariant-loop-place l = (k : ℕ) → k < length l.initial.loose → get_or l.loose k false ≡ ((nat_le l.from k && nat_lt k l.place) || get_or l.initial.loose k false)
